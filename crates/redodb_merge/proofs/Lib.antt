mod BusyCounts
mod MergeSteps
mod ToldEntries
mod TurnsShown
pub mod Unmerged
mod WaitingBits
mod WaitingSteps
