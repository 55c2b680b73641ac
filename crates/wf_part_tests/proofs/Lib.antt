pub mod Room
pub mod Coming
