pub mod Naming
pub mod Single
pub mod Mistakes
