pub mod Steps
pub mod Pieces
pub mod Laws
pub mod Automaton
pub mod Turns
pub mod Tables
pub mod Inside
pub mod Bounds
