pub mod CompactCells
pub mod PairRows
pub mod Replicas
pub mod Replies
pub mod Support
