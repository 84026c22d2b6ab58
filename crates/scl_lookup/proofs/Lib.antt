pub mod FramingLaws
pub mod HitLaws
pub mod KeyLaws
pub mod ListLaws
pub mod LookupLaws
pub mod Maps
pub mod TalkLaws
