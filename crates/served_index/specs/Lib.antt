pub mod IndexState
pub mod Pendings
pub mod Standing
