pub mod Members
pub mod Falling
pub mod Rising
pub mod Gathered
pub mod Sorting
