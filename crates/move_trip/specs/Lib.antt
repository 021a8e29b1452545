pub mod Trips
pub mod Spans
