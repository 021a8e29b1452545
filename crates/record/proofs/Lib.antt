pub mod Giving
pub mod Saying
