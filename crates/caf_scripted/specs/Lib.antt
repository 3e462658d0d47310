pub mod Script
pub mod Scripted
pub mod Laws
pub mod Relay
