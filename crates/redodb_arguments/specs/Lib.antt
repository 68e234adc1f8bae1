pub mod Support
pub mod Lines
pub mod LiveWords
pub mod Words
