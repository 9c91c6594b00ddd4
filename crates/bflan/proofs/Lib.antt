pub mod Exercises
pub mod Layouts
pub mod round_trip
