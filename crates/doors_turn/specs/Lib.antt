pub mod Doors
pub mod Parts
