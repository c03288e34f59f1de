pub mod Numbering
pub mod Options
pub mod ByKind
pub mod Acting
pub mod FromCalls
pub mod Starts
pub mod Made
pub mod Beginning
pub mod Keeping
pub mod Sounding
mod Finding
pub mod Steady
