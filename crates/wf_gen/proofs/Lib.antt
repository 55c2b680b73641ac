pub mod Drawn
pub mod Lists
pub mod Sealed
