pub mod Counts
pub mod Admitting
pub mod Growing
pub mod Worlds
pub mod Kept
pub mod Ends
