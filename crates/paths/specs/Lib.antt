pub mod Leads
pub mod Reached
pub mod Best
