pub mod Sorted
pub mod Merged
