pub mod LookUps
pub mod Forms
pub mod Noting
pub mod Checks
pub mod Typing
