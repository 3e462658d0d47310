pub mod Opening
pub mod Phase
pub mod Run
