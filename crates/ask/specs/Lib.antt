pub mod Placed
pub mod PathRows
pub mod JointRules
pub mod Promises
