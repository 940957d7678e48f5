pub mod Reading
pub mod Longest
pub mod Handing
pub mod Single
pub mod Mistakes
