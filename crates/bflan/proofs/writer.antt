pub mod LayoutParts
pub mod Pens
pub mod Stored
pub mod WriteAnswers
