pub mod Going
pub mod Rounds
pub mod Starts
pub mod ToRest
