pub mod Bases
pub mod Cuts
pub mod Laws
pub mod Markers
pub mod Runs
pub mod Told
pub mod Unmapped
