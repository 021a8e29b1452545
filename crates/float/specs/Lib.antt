pub mod Facts
pub mod Float
pub mod Parts
