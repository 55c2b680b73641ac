mod Records
mod Readings
mod Texts
mod Leaving
pub mod Crashes
mod Finishing
