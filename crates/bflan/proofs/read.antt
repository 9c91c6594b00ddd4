pub mod Answers
pub mod Replaced
