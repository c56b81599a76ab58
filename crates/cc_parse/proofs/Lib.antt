pub mod Answered
pub mod OneRefusal
