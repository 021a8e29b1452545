pub mod Cases
pub mod Division
pub mod Rounding
pub mod Sides
pub mod Total
pub mod Units
