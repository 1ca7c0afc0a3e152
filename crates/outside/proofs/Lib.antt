pub mod ToldLemmas
pub mod PartsLemmas
