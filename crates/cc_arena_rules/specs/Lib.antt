pub mod Inherited
pub mod Looks
pub mod Below
pub mod Surroundings
pub mod Variables
pub mod Repeats
pub mod Broken
pub mod Least
