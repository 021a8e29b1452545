pub mod Cyclic
pub mod Movement
