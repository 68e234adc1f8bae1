pub mod Devices
pub mod Support
pub mod Watched
