pub mod StartedLemmas
pub mod OpeningLemmas
