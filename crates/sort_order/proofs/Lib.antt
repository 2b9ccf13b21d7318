pub mod Ordered
pub mod Placing
pub mod Renumbered
pub mod Standing
