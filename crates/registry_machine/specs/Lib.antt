pub mod Entries
pub mod Orders
pub mod Machine
pub mod Legal
pub mod Places
pub mod Callers
pub mod Laws
pub mod Trials
