pub mod UnitItems
pub mod Completing
pub mod Laws
pub mod Stock
pub mod Completed
