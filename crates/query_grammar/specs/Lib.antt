pub mod Forms
pub mod Fitting
pub mod Meaning
pub mod Right
pub mod Texts
pub mod Laws
pub mod Guide
pub mod Trials
