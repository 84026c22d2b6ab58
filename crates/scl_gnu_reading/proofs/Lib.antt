pub mod CheckLaws
pub mod InnerLemmas
pub mod ObjectLaws
pub mod OutputLaws
pub mod ReadLaws
