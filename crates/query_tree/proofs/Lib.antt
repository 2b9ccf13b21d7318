pub mod Comparing
pub mod MatchLaws
pub mod Matching
