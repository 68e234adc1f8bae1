pub mod Stamp
pub mod Meaning
pub mod Support
