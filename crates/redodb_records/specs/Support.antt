pub mod Kept
pub mod News
pub mod Numbers
pub mod Target
pub mod KeptMark
pub mod KeptState
pub mod Cell
pub mod Slot
