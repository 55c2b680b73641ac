pub mod Units
pub mod Fuses
pub mod Shown
pub mod Slots
pub mod Answers
pub mod Seats
pub mod Writes
pub mod Reopening
