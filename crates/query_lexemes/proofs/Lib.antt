pub mod Characters
mod ItemsTurn
mod Numbers
mod Runs
pub mod LexemeTexts
pub mod Pieces
pub mod Ranges
pub mod Shapes
