pub mod Leader
pub mod Parts
