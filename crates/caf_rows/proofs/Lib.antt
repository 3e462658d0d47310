pub mod CoreLemmas
pub mod ShortLemmas
pub mod FittingLemmas
