pub mod Merge
pub mod Records
