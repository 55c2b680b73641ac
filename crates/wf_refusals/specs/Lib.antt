pub mod Lines
pub mod TextFaults
pub mod CheckFaults
pub mod Accepted
pub mod Scripts
