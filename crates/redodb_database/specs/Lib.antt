pub mod Support
pub mod Meaning
pub mod Tables
