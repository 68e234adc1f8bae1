pub mod Support
pub mod Operations
pub mod Logs
pub mod Restores
