pub mod PickLemmas
pub mod LineLemmas
pub mod DelayLemmas
pub mod FiledLemmas
pub mod DueLemmas
pub mod NumberLemmas
