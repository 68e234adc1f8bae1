pub mod Forms
pub mod Read
pub mod SetParts
pub mod Slots
