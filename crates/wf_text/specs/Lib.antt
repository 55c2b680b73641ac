pub mod Places
pub mod ChartFaults
pub mod Declarations
pub mod Transitions
pub mod States
pub mod Text
