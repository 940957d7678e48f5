pub mod Words
pub mod Trips
