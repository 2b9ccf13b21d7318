pub mod FieldFaults
pub mod FieldLists
pub mod Numbers
pub mod Positions
pub mod Readers
pub mod Shapes
pub mod StringFields
pub mod TokenRuns
