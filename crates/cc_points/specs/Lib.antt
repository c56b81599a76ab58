pub mod Tables
pub mod Solving
