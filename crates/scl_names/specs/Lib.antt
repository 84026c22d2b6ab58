pub mod FileNames
pub mod Names
pub mod Launchers
pub mod LaunchersGiven
