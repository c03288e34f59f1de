mod Glances
mod KeptLemmas
mod Sentences
mod StepLaws
mod Usable
