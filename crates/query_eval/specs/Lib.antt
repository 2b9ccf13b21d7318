pub mod Found
pub mod Kept
pub mod Many
pub mod Runs
pub mod Sought
