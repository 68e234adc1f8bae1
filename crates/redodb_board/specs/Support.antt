pub mod Core
pub mod Own
pub mod Plays
pub mod Rule
pub mod Shown
pub mod Steps
pub mod Views
