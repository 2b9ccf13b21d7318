pub mod Entries
pub mod Keys
pub mod Looks
pub mod Results
