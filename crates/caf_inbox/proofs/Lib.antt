pub mod ListLemmas
pub mod SenderLemmas
pub mod RuleLemmas
pub mod TakeLemmas
pub mod MakeLemmas
