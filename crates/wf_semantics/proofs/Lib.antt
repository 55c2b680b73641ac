mod WorkedCharts
pub mod Lists
pub mod Setting
pub mod Ancestors
pub mod Nodes
pub mod Walks
pub mod Children
pub mod Facts
pub mod Charts
pub mod Places
pub mod Scopes
pub mod Grown
pub mod Depth
pub mod Steps
pub mod Towards
pub mod Configured
pub mod Tables
pub mod LawsHold
pub mod Runs
mod SmallChart
