pub mod BitsLemmas
pub mod CheckedLemmas
pub mod DescentLemmas
pub mod OrderLemmas
pub mod PrefixLemmas
pub mod TablesLemmas
pub mod TreeLemmas
