pub mod Lines
pub mod Pending
pub mod Due
pub mod Filed
pub mod Promised
pub mod Promise
pub mod Holds
pub mod Delays
