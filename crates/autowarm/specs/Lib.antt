pub mod Listening
pub mod Steps
pub mod Warming
pub mod WarmKeys
pub mod WarmRequests
