pub mod Turning
pub mod Cases
