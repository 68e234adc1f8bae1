pub mod Steps
pub mod Sending
pub mod Opening
