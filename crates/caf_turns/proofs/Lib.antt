pub mod ListLemmas
pub mod StepLemmas
pub mod SumLemmas
pub mod RuleLemmas
