pub mod Watch
pub mod Turns
pub mod Holding
pub mod Ticking
pub mod Reading
pub mod Records
pub mod Proved
pub mod Computed
