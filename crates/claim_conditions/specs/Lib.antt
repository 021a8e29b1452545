pub mod Conditions
pub mod Refusals
