pub mod Looking
pub mod Single
