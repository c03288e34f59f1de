pub mod States
pub mod Rows
pub mod FirstStates
pub mod Parts
pub mod PartRows
pub mod Applies
pub mod Changes
pub mod Rests
