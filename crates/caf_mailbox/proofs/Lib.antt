pub mod ResponseLemmas
pub mod LateLemmas
pub mod SearchLemmas
pub mod CachesLemmas
pub mod NextLemmas
pub mod OrderLemmas
pub mod LineLemmas
pub mod FilingLemmas
