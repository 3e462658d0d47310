pub mod Home
pub mod Counted
pub mod Delivery
pub mod Requests
