pub mod Answers
pub mod Decimals
pub mod Trips
