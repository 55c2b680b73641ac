pub mod Lines
pub mod Values
pub mod Drafts
pub mod Script
pub mod Reports
