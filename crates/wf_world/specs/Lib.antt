pub mod Sent
pub mod States
pub mod Plays
pub mod Mail
pub mod Machines
pub mod Sounds
pub mod Fleets
