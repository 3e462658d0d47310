-- Lemmas by topic.
pub mod PartsLemmas
pub mod LawLemmas
pub mod RunLemmas
pub mod ClapLemmas
pub mod SimLemmas
pub mod RowsLemmas
pub mod MatchLemmas
