pub mod AtHand
pub mod Told
