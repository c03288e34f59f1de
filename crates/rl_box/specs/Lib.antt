pub mod Glance
pub mod Kept
pub mod Mind
pub mod Steps
