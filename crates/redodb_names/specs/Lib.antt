pub mod Support
pub mod Names
pub mod Orders
