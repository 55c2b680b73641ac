pub mod Lex
pub mod Slices
