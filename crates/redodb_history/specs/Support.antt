pub mod HistoryFaults
pub mod HistoryTexts
