pub mod Picking
pub mod Persons
pub mod Starting
pub mod Unreached
pub mod Handing
pub mod Finding
pub mod Single
