pub mod Faults
pub mod Flushes
pub mod Counted
pub mod MemSource
pub mod MemSink
