pub mod Counting
pub mod Doors
pub mod Hearing
pub mod Listing
pub mod PastCaches
pub mod Turning
