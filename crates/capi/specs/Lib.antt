pub mod Changed
pub mod FieldNumbers
pub mod inner
