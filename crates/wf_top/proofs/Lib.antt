pub mod Parts
pub mod Fits
pub mod Plays
pub mod Summaries
pub mod Unarmed
pub mod Dues
pub mod Trails
pub mod Ends
