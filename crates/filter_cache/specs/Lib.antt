pub mod Filters
pub mod Looks
