pub mod FrameLemmas
pub mod OutlineLemmas
pub mod ReadingLemmas
pub mod ClassLemmas
pub mod TakingLemmas
