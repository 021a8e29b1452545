pub mod Door
pub mod Phases
pub mod Parts
