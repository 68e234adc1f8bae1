pub mod Support
pub mod Replays
pub mod Verdicts
