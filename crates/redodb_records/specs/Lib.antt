pub mod Meaning
pub mod Cells
pub mod Refusals
pub mod Support
pub mod News
pub mod Numbers
pub mod Rows
pub mod Target
