pub mod ByRows
pub mod RowWord
pub mod Words
pub mod Replayed
pub mod Events
pub mod Named
pub mod Worked
pub mod WorkedHistories
