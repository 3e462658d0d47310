pub mod Event
pub mod Item
pub mod Range
pub mod Tells
pub mod Taking
pub mod LoadAnswer
pub mod Queue
