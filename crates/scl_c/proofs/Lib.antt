mod TextLemmas
mod DescribedLemmas
mod AgainLemmas
mod CatalogueLemmas
pub mod Answered
pub mod Letting
pub mod PassedOn
pub mod Steps
pub mod Sharing
pub mod Told
