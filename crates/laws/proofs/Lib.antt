pub mod Bools
pub mod Choices
pub mod Counting
pub mod Folding
