pub mod Jams
pub mod JamText
pub mod Finding
pub mod Stuck
