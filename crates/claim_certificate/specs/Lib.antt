pub mod Certificate
pub mod Manual
pub mod Examples
pub mod Joined
