pub mod Bits
pub mod Support
pub mod Memo
pub mod NameSet
