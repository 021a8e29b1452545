pub mod Clearing
pub mod Parts
