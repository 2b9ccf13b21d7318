pub mod Counts
pub mod Filters
pub mod Fits
pub mod Names
