pub mod Asked
pub mod Recording
pub mod Roles
pub mod Steps
