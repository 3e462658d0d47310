pub mod Station
pub mod Body
