pub mod Demands
pub mod Listings
pub mod Pruning
pub mod Additions
pub mod DutyDesk
