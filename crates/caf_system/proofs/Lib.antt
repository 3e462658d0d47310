pub mod CrewLemmas
pub mod SendingLemmas
pub mod StationLemmas
