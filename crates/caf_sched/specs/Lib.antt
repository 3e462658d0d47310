pub mod Crew
pub mod Ends
pub mod Hand
pub mod Seat
pub mod Tickets
pub mod Work
pub mod Worker
