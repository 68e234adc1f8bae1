pub mod Merges
pub mod Merging
pub mod Waiting
