pub mod Pairs
pub mod Named
pub mod Tables
pub mod Kept
