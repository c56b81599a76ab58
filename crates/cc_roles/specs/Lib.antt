pub mod Calls
pub mod Components
pub mod Names
