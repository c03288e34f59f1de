pub mod Glance
pub mod Kept
pub mod Machine
pub mod Track
