pub mod Takes
pub mod Rule
pub mod Steps
pub mod Passes
pub mod Making
pub mod Closing
