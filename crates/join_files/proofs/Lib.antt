pub mod Joining
pub mod Reporting
pub mod Single
pub mod Ships
pub mod Mistakes
