pub mod Reading
pub mod Loops
pub mod Masking
pub mod Showing
pub mod Gathering
pub mod Stepping
pub mod Bounds
pub mod Locking
