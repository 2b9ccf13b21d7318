pub mod Lightening
pub mod Putting
