pub mod Nests
pub mod Parts
pub mod Rounds
pub mod Views
