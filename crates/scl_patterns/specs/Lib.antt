pub mod Assembled
pub mod Patterns
pub mod Refusals
pub mod Sources
pub mod Unseen
