pub mod OfShapeLemmas
pub mod RangeLemmas
pub mod TellingLemmas
pub mod LoopLemmas
pub mod TakingLemmas
pub mod ValueLemmas
