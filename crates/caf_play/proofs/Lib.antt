pub mod DriveLemmas
pub mod EndLemmas
pub mod PlayLemmas
pub mod PartLemmas
pub mod UnstoppedLemmas
