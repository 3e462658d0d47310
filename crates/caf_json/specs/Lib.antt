pub mod Digits
pub mod Form
pub mod Reading
pub mod Answer
pub mod Stack
pub mod Builder
pub mod Saver
