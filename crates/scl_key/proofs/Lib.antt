pub mod PartLaws
pub mod PathLaws
pub mod KeyLaws
pub mod HitLaws
pub mod DirectLaws
