pub mod Fields
pub mod LocatedFields
pub mod Locating
pub mod Replacing
