pub mod Bridging
pub mod Full
pub mod Sharing
pub mod Places
pub mod Simulated
