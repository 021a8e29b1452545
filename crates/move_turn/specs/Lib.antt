pub mod Passing
pub mod Movement
pub mod Parts
