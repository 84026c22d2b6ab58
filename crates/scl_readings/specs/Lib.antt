pub mod Folders
pub mod Lines
pub mod Markers
pub mod Names
pub mod Places
pub mod Quoted
