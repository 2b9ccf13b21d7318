pub mod OnlyDoors
