pub mod Callers
pub mod Framing
pub mod Keys
pub mod Lists
pub mod Lookups
pub mod Questions
pub mod Worlds
