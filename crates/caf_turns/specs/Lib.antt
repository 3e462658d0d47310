pub mod Limits
pub mod Rule
pub mod Seat
pub mod Steps
pub mod Views
