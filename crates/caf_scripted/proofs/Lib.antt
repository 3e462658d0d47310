pub mod IdLemmas
pub mod BatchLemmas
