mod Glances
mod Kept
mod Sentences
mod StepLaws
