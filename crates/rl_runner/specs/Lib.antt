pub mod Turns
pub mod Groups
