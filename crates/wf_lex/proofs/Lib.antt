pub mod TokenSteps
pub mod Sliced
pub mod Endless
