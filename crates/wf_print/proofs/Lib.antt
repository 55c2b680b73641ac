pub mod Gathered
pub mod Written
pub mod Operators
pub mod Pieces
pub mod LinedText
pub mod NestedText
