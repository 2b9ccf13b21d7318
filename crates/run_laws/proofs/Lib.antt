pub mod OnLiterals
pub mod Worked
pub mod Alone
pub mod Written
pub mod FirstPlace
pub mod Others
pub mod TicketTrials
