-- Corpora, and their limits.
pub mod Limits
pub mod Corpus
