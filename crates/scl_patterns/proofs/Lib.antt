pub mod AssembledLemmas
pub mod PlaceLemmas
