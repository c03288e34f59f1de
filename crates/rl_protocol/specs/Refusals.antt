-- The refusals that were said to a train.
use Rattle.std.specs.Prelude.{ℕ, ◌+◌, Bool, true, false, if◌then◌else◌}
use Rattle.rl_words.specs.declared.mail.MailWord.{MailWord}
use Rattle.rl_words.specs.declared.mail.MailWord.TheVariants.{Empty, Ask, Taken, Yes, No}
use Rattle.rl_protocol.specs.State.{State}

-- a No lies in the mailbox
abbrev pub is_no : MailWord → Bool
is_no Empty = false
is_no (Ask l) = false
is_no (Taken l) = false
is_no (Yes l) = false
is_no (No l u) = true

-- the refusals that were said to train t: those that it has heard, and the one in its mailbox
abbrev pub refusals_said : State → ℕ → ℕ
refusals_said s t = (s.trains t).refused + (if is_no (s.mail t) then 1 else 0)
