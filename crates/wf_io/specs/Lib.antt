pub mod Causes
pub mod Memory
pub mod Script
pub mod Told
