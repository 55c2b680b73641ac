pub mod Turns
pub mod Prefixes
