pub mod Bridging
pub mod Sharing
pub mod Placing
pub mod Simulating
pub mod Full
