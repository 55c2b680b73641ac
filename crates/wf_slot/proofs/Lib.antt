pub mod Requests
pub mod Sets
pub mod Fuses
pub mod Units
pub mod Lines
pub mod Showing
pub mod Endings
pub mod Seats
mod Breaking
mod Disks
mod Admits
mod Turns
mod Starts
mod Recoveries
mod Receives
mod Gathers
mod Listing
mod Full
mod Arming
mod AdmitEnds
mod TurnEnds
mod Crashing
mod Falling
mod Ups
mod UpEnds
mod Finishing
mod Spelled
mod Reading
