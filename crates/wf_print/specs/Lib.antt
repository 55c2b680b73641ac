pub mod Words
pub mod Expressions
pub mod Declarations
pub mod States
pub mod Transitions
pub mod ChartText
pub mod Lined
pub mod Nested
