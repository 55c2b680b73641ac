pub mod Ranges
pub mod Sorted
