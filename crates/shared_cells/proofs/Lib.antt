pub mod Copies
pub mod Entries
pub mod Seats
pub mod Stores
