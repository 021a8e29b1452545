pub mod Sizes
pub mod Going
