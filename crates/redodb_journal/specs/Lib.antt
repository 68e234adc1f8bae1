pub mod Holds
pub mod Support
pub mod Journals
pub mod Numbers
pub mod Plans
