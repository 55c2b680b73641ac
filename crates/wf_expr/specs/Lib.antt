pub mod Room
pub mod Ints
