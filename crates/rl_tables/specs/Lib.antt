pub mod Examples
pub mod Kept
pub mod Ranges
pub mod Starts
pub mod Tables
pub mod TablesText
