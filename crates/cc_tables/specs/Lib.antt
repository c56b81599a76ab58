pub mod Ends
pub mod Justifying
pub mod Names
pub mod Pairs
pub mod Records
pub mod Rows
pub mod Tables
pub mod TestTable
