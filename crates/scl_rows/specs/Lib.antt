pub mod GnuRows
pub mod Lines
pub mod MsvcRows
pub mod Names
pub mod Rows
pub mod SmallRows
