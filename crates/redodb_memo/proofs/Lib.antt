pub mod Deriving
pub mod Marking
pub mod Spreading
pub mod WordMembers
pub mod Words
