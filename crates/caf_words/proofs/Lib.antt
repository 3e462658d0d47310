pub mod CountLemmas
pub mod LoopLemmas
pub mod PackingLemmas
pub mod RangeLemmas
pub mod RowLemmas
pub mod SeveralLemmas
pub mod SpellingLemmas
