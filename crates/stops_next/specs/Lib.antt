pub mod NextStop
