mod Receiving
pub mod Rows
mod Gathers
mod Takings
mod Beginnings
mod Keepings
mod Outcomes
pub mod Peering
pub mod Sends
pub mod Moving
mod Short
pub mod Answered
mod Full
mod Said
pub mod Admitting
mod Stepped
mod Going
mod Turning
mod Working
pub mod Pairings
pub mod Changing
pub mod Agreeing
