pub mod Inputs
pub mod Judged
pub mod OneVerdict
