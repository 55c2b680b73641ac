pub mod Known
pub mod Digits
pub mod Characters
pub mod Reserved
