pub mod Innermost
pub mod Names
pub mod Trail
pub mod Invariant
pub mod Steps
