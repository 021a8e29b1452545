pub mod Numbers
pub mod Counting
