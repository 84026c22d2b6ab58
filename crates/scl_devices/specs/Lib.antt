pub mod Counts
pub mod Failing
pub mod Writes
