pub mod Chosen
pub mod Blocking
