mod FieldLemmas
mod LetterLemmas
mod LockLemmas
mod MailLemmas
mod Options
mod OwnerLemmas
pub mod PackedSteps
mod PackingLemmas
mod ReadingLemmas
mod ResvLemmas
mod WordLemmas
