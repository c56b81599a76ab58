pub mod Bound
pub mod Entries
pub mod Rules
