pub mod Apart
pub mod Passed
pub mod Turns
pub mod Runs
pub mod Proved
pub mod Computed
