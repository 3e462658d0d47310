pub mod Words
pub mod Chunks
pub mod Postings
pub mod Index
pub mod PlainIndex
pub mod Filled
pub mod IndexText
pub mod NumberMap
