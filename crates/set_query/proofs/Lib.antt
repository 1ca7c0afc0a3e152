pub mod Alike
pub mod Ids
pub mod PairLemmas
pub mod UnionLemmas
