pub mod AlarmLemmas
pub mod PlanningLemmas
pub mod ClosingLemmas
pub mod AskedLemmas
pub mod DifferLemmas
pub mod KindExamples
mod ConductorExamples
pub mod LineLemmas
pub mod ShortLineLemmas
pub mod ChunkPlaceLemmas
pub mod QuestionLemmas
pub mod SourceLemmas
pub mod SightLemmas
