pub mod Ascii
pub mod Listed
pub mod NameLists
pub mod Numbered
pub mod Pieces
pub mod Places
pub mod Ranked
pub mod Sorting
