pub mod Tape
pub mod Facts
