pub mod Cuts
pub mod Texts
pub mod Held
pub mod Laws
