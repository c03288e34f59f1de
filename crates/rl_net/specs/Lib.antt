pub mod Sizes
pub mod Ends
pub mod NetRefusals
pub mod NameTables
pub mod NamedNetwork
