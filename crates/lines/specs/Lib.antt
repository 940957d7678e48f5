pub mod Numerals
pub mod Nine
pub mod LineTold
pub mod Naming
pub mod Fitting
