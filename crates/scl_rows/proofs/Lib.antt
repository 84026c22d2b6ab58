pub mod GnuTells
pub mod LineLaws
pub mod MsvcTells
pub mod SmallTells
pub mod TellLaws
