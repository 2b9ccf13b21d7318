pub mod Fronts
pub mod Keys
pub mod Missing
pub mod Sound
