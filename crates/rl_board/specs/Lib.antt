pub mod Below
pub mod Boards
pub mod Changes
pub mod BoardText
