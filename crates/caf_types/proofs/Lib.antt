pub mod FilingLemmas
pub mod NewLemmas
pub mod TableLemmas
