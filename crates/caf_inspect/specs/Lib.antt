pub mod WordForm
pub mod WordSaver
pub mod Loader
pub mod LoadAnswer
pub mod TextStack
pub mod TextBuilder
pub mod TextSaver
