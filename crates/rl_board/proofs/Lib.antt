pub mod Sums
pub mod Standing
pub mod Counted
pub mod Kept
pub mod Peaks
pub mod Lines
pub mod Shown
