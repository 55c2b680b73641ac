pub mod Clients
pub mod Workers
