mod SeatTrials
mod Turns
mod Chain
