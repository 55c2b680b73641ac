pub mod Kept
pub mod Passes
pub mod Sight
pub mod Made
pub mod Standings
pub mod Found
