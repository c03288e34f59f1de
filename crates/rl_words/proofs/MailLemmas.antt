-- A mail word without a letter.
use Rattle.std.proofs.Common.{◌≡◌, ◌≢◌, ℕ, ◌+◌, ◌*◌, ◌%◌, ◌^◌, ◌<◌, lit<, arith}
use Rattle.rl_base.specs.declared.job.Verb.{Verb}
use Rattle.rl_base.specs.declared.job.Verb.TheVariants.{Reserve, Release, Lock, Unlock}
use Rattle.rl_words.specs.declared.mail.Letter.{Letter}
use Rattle.rl_words.specs.declared.mail.MailWord.{MailWord}
use Rattle.rl_words.specs.declared.mail.MailWord.TheVariants.{Empty, Ask, Taken, Yes, No}
use Rattle.rl_words.specs.Mail.{FitsLetter, FitsMail, verb_code, packed_letter, packed_mail}

pub verb_code-lt : (verb : Verb) → verb_code verb < 4
verb_code-lt Reserve = lit< tt
verb_code-lt Release = lit< tt
verb_code-lt Lock = lit< tt
verb_code-lt Unlock = lit< tt

-- a letter leaves the lowest three bits to the tag, and those from 16 on to the holder
letter_among : (n tag above : ℕ) (l : Letter) → tag < 8 → FitsLetter l → tag + packed_letter l + above * 2 ^ 16 ≡ n → n % 8 + packed_letter l ≡ n % 2 ^ 16
letter_among n tag above l small fits e = let verb = verb_code-lt l.verb in omega arith

-- a payload that isn't 0 and has no letter is no mail word
pub no_letter : (n : ℕ) → n ≢ 0 → ((l : Letter) → FitsLetter l → n % 8 + packed_letter l ≢ n % 2 ^ 16) → (v : MailWord) → FitsMail v → packed_mail v ≢ n
no_letter n some none Empty fits e = some (omega arith)
no_letter n some none (Ask l) fits e = none l fits (letter_among n 1 0 l (lit< tt) fits (omega arith))
no_letter n some none (Taken l) fits e = none l fits (letter_among n 2 0 l (lit< tt) fits (omega arith))
no_letter n some none (Yes l) fits e = none l fits (letter_among n 3 0 l (lit< tt) fits (omega arith))
no_letter n some none (No l holder) fits e = none l fits.0 (letter_among n 4 holder.0 l (lit< tt) fits.0 e)
