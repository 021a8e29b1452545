pub mod Answering
pub mod Deciding
pub mod Reading
pub mod BrokenWorld
pub mod Asking
pub mod ByKind
pub mod Given
pub mod Taking
