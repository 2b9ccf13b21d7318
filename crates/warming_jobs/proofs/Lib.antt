pub mod Taking
pub mod Frame
pub mod Steps
pub mod Joining
pub mod Leaving
pub mod Making
pub mod Closing
pub mod Draining
