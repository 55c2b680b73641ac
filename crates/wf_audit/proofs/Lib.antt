pub mod Variables
pub mod Sights
pub mod Scripts
