pub mod Classes
pub mod Gives
pub mod Rounds
