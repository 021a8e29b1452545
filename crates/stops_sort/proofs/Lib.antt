pub mod Insertion
pub mod Order
