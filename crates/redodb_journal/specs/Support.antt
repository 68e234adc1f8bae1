pub mod Commands
pub mod Holds
pub mod Kept
