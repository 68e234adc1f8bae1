pub mod LawfulLines
pub mod Led
pub mod HeldNames
pub mod EndedAll
pub mod OpeningKept
