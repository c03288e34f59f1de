pub mod Growing
pub mod Named
pub mod Reading
pub mod Stored
