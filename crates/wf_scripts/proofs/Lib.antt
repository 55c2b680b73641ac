pub mod Divided
pub mod Split
pub mod Noted
pub mod Spelled
pub mod Commas
pub mod Read
pub mod Counted
