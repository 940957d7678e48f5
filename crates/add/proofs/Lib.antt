pub mod Alone
pub mod Adding
pub mod Showing
pub mod Fitting
pub mod Placing
pub mod Having
