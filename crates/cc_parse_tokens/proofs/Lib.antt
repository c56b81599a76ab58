pub mod ByRounds
pub mod NameLists
pub mod Rounds
