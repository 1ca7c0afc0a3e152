pub mod Stripped
pub mod Spreading
pub mod Lending
pub mod StripFacts
pub mod StripMeans
