pub mod Faults
pub mod Files
pub mod Support
pub mod Outcomes
pub mod RunTexts
pub mod Runs
