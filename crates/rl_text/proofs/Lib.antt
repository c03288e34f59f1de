pub mod LineWords
pub mod LinesLemmas
pub mod NumberLemmas
