pub mod Bounded
pub mod Steps
pub mod Within
