pub mod Tick
pub mod Room
pub mod Counters
pub mod Traps
