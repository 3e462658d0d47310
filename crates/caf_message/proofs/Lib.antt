pub mod ContentLemmas
pub mod FitsLemmas
pub mod StepLemmas
pub mod ListLemmas
