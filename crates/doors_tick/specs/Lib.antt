pub mod Ticks
pub mod Parts
