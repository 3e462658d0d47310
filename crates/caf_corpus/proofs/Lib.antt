-- Lemmas by topic.
pub mod FirstLemmas
pub mod CorpusLemmas
