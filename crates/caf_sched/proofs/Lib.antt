pub mod CrewLemmas
pub mod HandLemmas
pub mod StepLemmas
pub mod TicketLemmas
