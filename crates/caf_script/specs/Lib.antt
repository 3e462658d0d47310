pub mod Step
pub mod Reply
pub mod Script
