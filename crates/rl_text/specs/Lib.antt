pub mod Lines
pub mod Number
pub mod Output
pub mod Words
