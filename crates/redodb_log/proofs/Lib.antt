pub mod Grown
pub mod CutLogs
pub mod Asked
pub mod Redone
pub mod Stepping
pub mod Prefixes
pub mod Counts
pub mod Dumped
