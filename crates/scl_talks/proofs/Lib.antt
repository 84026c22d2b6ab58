pub mod NameLaws
pub mod RowLemmas
pub mod TalkLemmas
