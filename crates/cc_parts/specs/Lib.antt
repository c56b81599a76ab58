pub mod TypeParts
pub mod Putting
pub mod PartTables
pub mod Objects
