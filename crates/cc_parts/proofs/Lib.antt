pub mod PartLists
pub mod Walking
