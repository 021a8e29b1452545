pub mod NeverBroken
