pub mod Calls
pub mod Support
