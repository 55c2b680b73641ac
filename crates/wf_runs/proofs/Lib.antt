mod WorkedRun
pub mod Parts
pub mod Closing
pub mod Completed
pub mod Numbers
pub mod Units
pub mod Order
pub mod Counting
pub mod Sight
pub mod LawsHold
