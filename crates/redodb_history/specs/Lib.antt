pub mod Histories
pub mod HistoryFaults
pub mod HistoryTexts
pub mod Support
pub mod Recorded
