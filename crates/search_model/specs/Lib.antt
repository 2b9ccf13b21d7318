pub mod Live
pub mod Answer
pub mod Reply
pub mod Messages
pub mod Noting
