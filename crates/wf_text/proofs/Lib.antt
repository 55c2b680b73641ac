pub mod Given
pub mod LastLine
