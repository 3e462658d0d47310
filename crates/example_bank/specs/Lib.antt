pub mod Types
pub mod Entries
pub mod Account
pub mod Member
pub mod Laws
