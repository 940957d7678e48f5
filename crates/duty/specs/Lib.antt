pub mod Desk
pub mod Promises
pub mod Answering
