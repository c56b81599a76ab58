pub mod Answers
pub mod Unread
