pub mod Layout
pub mod Objects
pub mod Stacks
