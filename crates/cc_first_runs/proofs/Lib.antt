pub mod Along
pub mod Ends
pub mod Names
pub mod Positions
pub mod Stacks
pub mod Turns
