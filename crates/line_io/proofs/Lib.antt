pub mod LinesLemmas
pub mod HeldLemmas
pub mod FillLemmas
pub mod NextLemmas
pub mod First
