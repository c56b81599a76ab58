pub mod Few
pub mod Named
pub mod Numbers
pub mod Places
pub mod Scores
pub mod Watched
