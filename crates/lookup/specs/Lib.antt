pub mod Looked
pub mod Standing
