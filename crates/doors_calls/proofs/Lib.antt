pub mod NoCalls
pub mod First
