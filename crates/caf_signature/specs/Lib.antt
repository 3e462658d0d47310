pub mod Interface
pub mod Registry
pub mod FindAnswer
