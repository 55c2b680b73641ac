pub mod Walks
pub mod Novel
pub mod Found
pub mod GoodNames
pub mod Parts
pub mod Preorder
pub mod Faultless
pub mod Memory
