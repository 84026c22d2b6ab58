pub mod SameWords
pub mod OnceLaws
pub mod WordLemmas
