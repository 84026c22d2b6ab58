mod SharedLaws
pub mod FrontLaws
