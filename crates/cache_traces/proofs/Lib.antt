pub mod Holding
pub mod Naming
pub mod Owners
pub mod Renaming
pub mod Runs
pub mod Storing
