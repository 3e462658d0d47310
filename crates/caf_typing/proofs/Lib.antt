pub mod FaultLemmas
pub mod MessageLemmas
pub mod PlaceLemmas
pub mod StepLemmas
pub mod OpensLemmas
pub mod BuiltinLemmas
pub mod SparesLemmas
