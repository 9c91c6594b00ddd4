pub mod Flow
pub mod Scan
