pub mod Among
pub mod Firsts
pub mod Keeping
pub mod Orders
pub mod Walks
