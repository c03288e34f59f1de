pub mod Causes
pub mod MemFiles
pub mod MemSink
pub mod Numbering
pub mod Sink
