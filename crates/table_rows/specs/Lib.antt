pub mod SeatTrials
pub mod TableTrials
