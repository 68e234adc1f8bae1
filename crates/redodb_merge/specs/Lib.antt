pub mod Support
pub mod Merges
