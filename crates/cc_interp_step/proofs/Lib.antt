pub mod Args
pub mod Behind
pub mod Filling
pub mod Names
pub mod Right
