pub mod Shapes
pub mod Expressions
pub mod Charts
pub mod Laws
