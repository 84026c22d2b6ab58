pub mod EscapedLemmas
pub mod PrintLemmas
pub mod SplitLemmas
