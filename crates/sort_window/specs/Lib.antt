pub mod First
pub mod Heaps
pub mod Kept
pub mod MarkLaws
pub mod Marks
pub mod Windows
