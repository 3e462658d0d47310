-- The words of the command line, and what they ask for.
pub mod Words
pub mod Number
pub mod Options
pub mod Parts
pub mod Command
pub mod Reading
pub mod Clap
pub mod Part
pub mod Met
