pub mod Firsts
pub mod Fit
pub mod Runs
pub mod Scored
pub mod Watching
