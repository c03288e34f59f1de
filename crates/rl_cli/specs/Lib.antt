pub mod Words
pub mod Table
pub mod Written
pub mod Orders
pub mod Apps
pub mod Limits
