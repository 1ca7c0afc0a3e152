pub mod NamesLemmas
pub mod TextLemmas
pub mod CommandLemmas
pub mod PutLemmas
