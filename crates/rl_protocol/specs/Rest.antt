-- Trains at rest.
use Rattle.std.specs.Prelude.{◌≡◌, ℕ, true}
use Rattle.rl_base.specs.declared.kind.Side.{Side}
use Rattle.rl_words.specs.declared.lock.LockWord.TheVariants.{Free}
use Rattle.rl_words.specs.declared.mail.MailWord.TheVariants.{Empty}
use Rattle.rl_protocol.specs.Line.{Line, is_held_by}
use Rattle.rl_protocol.specs.State.{State}
use Rattle.rl_protocol.specs.Minds.{at_rest}

-- every train rests
abbrev pub AllAtRest : Line → State → Type 0
AllAtRest line s = (t : ℕ) → at_rest line t (s.trains t) ≡ true

-- each train holds its segment wherever that has an end, and nothing else is held; no box has a lock, and all mailboxes
-- are empty
pub record HoldsSegmentsAlone (line : Line) (s : State) : Type 0 where
  pub holds : (t b x : ℕ) → is_held_by t (s.resv b x) ≡ line.ends t (s.trains t).step b x
  pub unlocked : (b : ℕ) → (side : Side) × (s.lock b ≡ Free side)
  pub mail : (t : ℕ) → s.mail t ≡ Empty
