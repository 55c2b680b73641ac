pub mod Runs
mod Replays
mod Tells
mod Sound
mod Plans
