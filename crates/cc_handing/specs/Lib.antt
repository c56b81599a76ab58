pub mod Owning
pub mod Sites
pub mod Reads
pub mod Handing
pub mod Passing
pub mod Members
