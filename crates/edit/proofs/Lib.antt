pub mod Calls
pub mod Changes
pub mod Demand
pub mod Entries
pub mod Exercises
pub mod FieldAt
pub mod Pai1
