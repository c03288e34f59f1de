mod Driving
pub mod Pieces
mod WordsOf
mod Named
mod Reporting
mod Read
mod OrderWords
mod Items
mod Meanings
mod PlainTurns
