pub mod Checked
pub mod Lent
pub mod Probes
pub mod Trees
