pub mod Writes
pub mod Events
pub mod Order
pub mod Store
pub mod Laws
