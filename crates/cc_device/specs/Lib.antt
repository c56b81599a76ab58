pub mod Rules
pub mod Keys
pub mod Order
pub mod Devices
pub mod Views
pub mod Outcome
