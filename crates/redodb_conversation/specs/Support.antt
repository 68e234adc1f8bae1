pub mod Moments
pub mod KeptLines
pub mod Requests
pub mod Replies
pub mod Places
pub mod Talking
pub mod Opening
pub mod Laws
