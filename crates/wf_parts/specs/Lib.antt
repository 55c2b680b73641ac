pub mod Components
pub mod Reads
pub mod ReadsLaws
pub mod Known
pub mod Peers
pub mod Parts
pub mod Laws
pub mod Rows
