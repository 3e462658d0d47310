pub mod Fresh
pub mod Promises
