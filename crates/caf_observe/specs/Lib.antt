pub mod Places
pub mod Observers
