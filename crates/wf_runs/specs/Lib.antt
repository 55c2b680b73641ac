pub mod Runs
pub mod Starts
pub mod Completions
pub mod Sight
pub mod Laws
