pub mod Numbered
pub mod Once
pub mod Merging
pub mod Orders
