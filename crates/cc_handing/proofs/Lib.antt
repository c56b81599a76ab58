pub mod Formals
pub mod Functions
