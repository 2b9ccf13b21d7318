pub mod KeysOfDocs
pub mod Matches
pub mod MatchLaws
pub mod Order
pub mod OrderLaws
pub mod Feed
pub mod QueryLaws
