pub mod ActivationTable
pub mod CellTable
pub mod Keys
pub mod Opened
pub mod Sets
pub mod Slots
