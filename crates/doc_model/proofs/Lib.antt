pub mod Lists
pub mod Shown
pub mod Values
pub mod Members
pub mod WholeNumbers
pub mod UniqueKey
pub mod Again
