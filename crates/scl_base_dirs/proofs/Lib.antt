pub mod BackLaws
pub mod BaseLaws
mod BaseLemmas
mod CutLemmas
mod RunLemmas
mod TextLaws
pub mod ToldLemmas
