pub mod Marked
pub mod SplitText
