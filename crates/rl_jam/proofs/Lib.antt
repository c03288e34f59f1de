pub mod Lists
pub mod Refused
pub mod Around
pub mod Collected
pub mod Shared
pub mod InJams
pub mod Lines
