pub mod Dumps
pub mod Support
pub mod Worked
