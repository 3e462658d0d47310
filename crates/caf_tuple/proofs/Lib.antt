pub mod SumLemmas
pub mod RuleLemmas
