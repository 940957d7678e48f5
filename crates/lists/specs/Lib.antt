pub mod Sought
pub mod Picked
pub mod ListWalks
pub mod Handed
pub mod Promises
