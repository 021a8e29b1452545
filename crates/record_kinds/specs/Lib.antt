pub mod Kinds
pub mod PaperRoom
pub mod Parts
