pub mod RunRecord
pub mod InOrder
pub mod Merged
pub mod Listed
pub mod Trace
pub mod BatchOrder
