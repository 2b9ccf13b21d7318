pub mod PlainTexts
pub mod Split
pub mod PlainLines
pub mod ConfigReads
pub mod Turns
pub mod MadeReads
pub mod Joins
