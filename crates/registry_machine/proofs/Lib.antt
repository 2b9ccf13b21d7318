pub mod Lists
pub mod Runs
pub mod Steps
pub mod Slots
pub mod Stands
pub mod Ranks
pub mod Indices
pub mod Tellings
