mod Making
mod NumberSets
mod Cuts
mod Rows
mod Tabled
pub mod Pairs
