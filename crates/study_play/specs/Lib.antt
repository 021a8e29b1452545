pub mod Play
pub mod Parts
