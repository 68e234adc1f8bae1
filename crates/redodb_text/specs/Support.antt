pub mod Faults
pub mod Reading
pub mod Forms
pub mod ReplyReading
pub mod Inquiries
