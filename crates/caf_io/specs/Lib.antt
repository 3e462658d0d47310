-- What files and sinks mean.
pub mod Faults
pub mod Files
pub mod Sink
pub mod MemoryFiles
pub mod MemorySink
