pub mod Tellings
pub mod Agreement
pub mod Serial
pub mod Laws
pub mod Trials
