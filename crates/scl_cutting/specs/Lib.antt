pub mod Iter
pub mod Places
pub mod Relation
pub mod Runs
pub mod Shrinking
pub mod State
