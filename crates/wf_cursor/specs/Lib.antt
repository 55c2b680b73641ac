pub mod Fault
pub mod Pieces
pub mod Names
pub mod Values
pub mod Input
pub mod Laws
