pub mod Numbers
pub mod Turns
pub mod Worlds
pub mod Whole
pub mod Records
pub mod Proved
