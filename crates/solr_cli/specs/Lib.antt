pub mod Statuses
pub mod Commands
pub mod Reading
pub mod Writing
pub mod Answering
pub mod Top
pub mod InputRuns
pub mod Arguments
