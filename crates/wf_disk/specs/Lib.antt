pub mod Arms
pub mod Disk
pub mod Strokes
pub mod Entries
pub mod Memory
pub mod MemoryLaws
pub mod Shelf
