pub mod Offences
pub mod Places
pub mod Symbols
