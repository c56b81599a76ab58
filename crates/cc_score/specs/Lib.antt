pub mod Any
pub mod Conflicts
pub mod Counts
pub mod Firsts
pub mod Groups
pub mod Marks
pub mod Order
pub mod Standings
