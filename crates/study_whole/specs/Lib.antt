pub mod Study
pub mod Place
pub mod WholeTape
pub mod Certified
pub mod Example
pub mod NeverShort
pub mod PrintedTotals
