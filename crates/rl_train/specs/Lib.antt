pub mod Glance
pub mod Jobs
pub mod Kept
pub mod Mind
pub mod Steps
