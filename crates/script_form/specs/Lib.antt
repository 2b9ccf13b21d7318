pub mod Lines
pub mod Results
pub mod Decimals
pub mod ReadConfig
pub mod ReadScript
pub mod Ranges
