pub mod Sorted
pub mod Parts
