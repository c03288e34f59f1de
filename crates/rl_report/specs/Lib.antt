pub mod Words
pub mod MoveNames
pub mod Grammar
pub mod Lines
pub mod Reading
pub mod Answers
pub mod Refusals
