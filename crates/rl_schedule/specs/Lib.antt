pub mod Turns
pub mod Kept
pub mod Driven
pub mod Orders
pub mod Readings
pub mod Given
pub mod Refusals
pub mod Meaning
