pub mod Names
pub mod Transitions
