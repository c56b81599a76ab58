pub mod Listing
pub mod Pairing
pub mod Spreads
pub mod Connecting
pub mod Joining
