pub mod Plans
pub mod Closings
pub mod Says
mod Nexts
pub mod Steps
