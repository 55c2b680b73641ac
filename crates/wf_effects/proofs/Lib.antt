pub mod Expressions
mod Performed
mod Bits
mod Effecting
