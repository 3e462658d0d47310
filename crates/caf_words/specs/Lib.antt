pub mod Answer
pub mod Datum
pub mod Fitting
pub mod Reading
pub mod Several
pub mod Spelling
pub mod Value
