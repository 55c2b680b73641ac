pub mod Counted
pub mod PartRule
pub mod GoesOn
pub mod Growing
pub mod Keeping
pub mod Sounds
