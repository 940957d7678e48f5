pub mod History
pub mod WatchTable
pub mod Trace
