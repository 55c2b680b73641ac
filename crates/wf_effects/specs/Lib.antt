pub mod Numbers
pub mod Performing
