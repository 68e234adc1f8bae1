pub mod Pairs
pub mod Steps
pub mod Graphs
pub mod Support
