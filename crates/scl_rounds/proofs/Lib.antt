pub mod CodeLemmas
pub mod FileLemmas
pub mod HeaderLemmas
pub mod OnceLemmas
pub mod RoundLaws
pub mod StepLemmas
