pub mod Meaning
pub mod Stamp
