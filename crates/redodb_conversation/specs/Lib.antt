pub mod Logs
pub mod Talks
pub mod Causes
pub mod Support
