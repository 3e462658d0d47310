pub mod ChosenLemmas
pub mod ChunkLemmas
pub mod GeneratedLemmas
pub mod LinesLemmas
pub mod PlayLemmas
pub mod TableLemmas
pub mod WordLemmas
