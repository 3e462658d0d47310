pub mod Block
pub mod Plays
pub mod Held
pub mod Tuple
