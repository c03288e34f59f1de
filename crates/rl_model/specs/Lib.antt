pub mod Network
pub mod World
pub mod Moves
pub mod Safety
pub mod Reports
pub mod ReportText
