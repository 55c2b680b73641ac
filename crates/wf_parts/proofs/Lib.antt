pub mod Entered
pub mod FlatSteps
pub mod Concerned
pub mod Blocking
