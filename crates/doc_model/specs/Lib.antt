pub mod Document
pub mod ReadDoc
pub mod Readers
pub mod DocJson
pub mod DocLaws
