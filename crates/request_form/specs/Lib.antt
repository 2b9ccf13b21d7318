pub mod Params
pub mod Values
pub mod Requests
pub mod Ranges
pub mod Filtering
pub mod Commits
pub mod Deletes
pub mod Messages
