pub mod Own
pub mod Same
pub mod Differing
pub mod Laws
pub mod Walks
pub mod Senders
