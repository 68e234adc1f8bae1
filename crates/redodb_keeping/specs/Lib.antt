pub mod Rounds
pub mod Openings
pub mod Failures
pub mod Support
