pub mod Drafts
pub mod Refusals
pub mod Search
pub mod Examples
