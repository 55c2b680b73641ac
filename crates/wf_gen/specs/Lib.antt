pub mod Draws
pub mod GenChart
pub mod GenScript
pub mod GenText
pub mod Laws
