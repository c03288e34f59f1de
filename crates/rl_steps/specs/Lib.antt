pub mod Numbers
pub mod Step
pub mod State
pub mod Run
pub mod Turn
pub mod Sound
pub mod Held
pub mod Whos
