pub mod Loads
pub mod LoadsGiven
pub mod Leads
pub mod MemoryDisks
