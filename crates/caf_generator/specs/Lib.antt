pub mod Generator
pub mod MakeLine
