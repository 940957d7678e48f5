pub mod Adding
pub mod Lone
