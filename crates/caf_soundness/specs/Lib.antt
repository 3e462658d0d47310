pub mod Typed
pub mod Scenarios
