mod Glances
mod MachineLemmas
mod TrackLemmas
