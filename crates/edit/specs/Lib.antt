pub mod Editing
pub mod FieldAt
pub mod Format
pub mod Journal
pub mod Machine
pub mod inner
