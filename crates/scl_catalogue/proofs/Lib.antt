pub mod AnyLemmas
pub mod KeyLemmas
pub mod NumberLemmas
