pub mod Desking
pub mod Answers
pub mod Promising
pub mod Single
pub mod Mistakes
