pub mod Operators
pub mod Expressions
pub mod Nests
pub mod Literals
pub mod Minus
