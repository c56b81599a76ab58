pub mod Entered
pub mod Laws
pub mod Runs
