pub mod Lines
pub mod Names
pub mod Finders
pub mod Values
pub mod Outers
pub mod Script
pub mod Laws
