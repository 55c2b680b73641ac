pub mod Lines
pub mod TrailText
pub mod Images
pub mod Shelves
pub mod Telling
pub mod Refusals
