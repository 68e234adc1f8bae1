pub mod Bits
pub mod NameSet
pub mod Regions
pub mod KeptNames
pub mod KeptBits
pub mod KeptMemo
