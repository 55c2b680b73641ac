pub mod Sights
pub mod Sighted
pub mod Firing
pub mod Gathering
pub mod Locking
