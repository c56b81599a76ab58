pub mod Below
pub mod Joining
pub mod Refusing
