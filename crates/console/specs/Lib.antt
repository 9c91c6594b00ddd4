pub mod Hex
pub mod Refusal
