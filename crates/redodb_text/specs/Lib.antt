pub mod Texts
pub mod Grammar
pub mod Questions
pub mod Faults
pub mod Replies
pub mod Support
pub mod Inquiries
