pub mod Working
pub mod Keeping
pub mod Traversing
