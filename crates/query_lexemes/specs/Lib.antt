pub mod Letters
pub mod Lexemes
pub mod Local
pub mod SortItems
