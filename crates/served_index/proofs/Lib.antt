pub mod Slots
pub mod Leaving
pub mod Uniques
pub mod Numbering
pub mod Indexing
