pub mod NamingLaws
pub mod JoiningLaws
pub mod MappingLaws
pub mod DepfileLaws
pub mod RequestLaws
pub mod SharedLaws
pub mod VerdictLaws
pub mod TextLaws
