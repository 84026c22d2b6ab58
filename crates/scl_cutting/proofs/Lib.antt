pub mod CutsLemmas
pub mod HoldsLemmas
pub mod IterLemmas
pub mod RelationLaws
pub mod WordsLemmas
