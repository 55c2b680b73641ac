pub mod Small
pub mod Apart
pub mod Ranged
pub mod Sorting
