pub mod Changes
pub mod Tables
pub mod Kept
pub mod Parts
pub mod Search
