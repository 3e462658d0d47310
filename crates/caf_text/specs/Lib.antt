pub mod TextForm
pub mod Front
pub mod TextReading
pub mod Answer
