pub mod CheckLine
