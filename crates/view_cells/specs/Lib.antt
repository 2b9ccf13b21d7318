pub mod Lists
pub mod Rule
pub mod Steps
pub mod Seats
pub mod Helds
pub mod Making
pub mod Closing
pub mod Lending
