pub mod Counting
pub mod Thresholds
pub mod Emitting
pub mod Moving
pub mod Cases
