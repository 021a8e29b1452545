pub mod Tables
pub mod World
pub mod With
pub mod Refusal
pub mod Modes
pub mod Parts
