pub mod Outline
pub mod Reading
pub mod Steady
pub mod Classes
