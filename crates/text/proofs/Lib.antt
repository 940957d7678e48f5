pub mod Spelling
pub mod Putting
pub mod Single
pub mod Mistakes
