-- Every step keeps the agreement on the attempts of each train.
use Rattle.std.proofs.Common.{◌≡◌, ℕ, ◌+◌, ◌<◌, ◌≤◌, ◌==◌, Bool, true, false, not, cond, sym, ap, ◌∙◌, refl, arith}
use Rattle.std.proofs.lemmas.Bool.{false≢true}
use Rattle.std.proofs.lemmas.Bool.Decides.{nat_tests}
use Rattle.rl_train.specs.declared.mind.TrainMind.{TrainMind}
use Rattle.rl_train.specs.Jobs.{looks_ahead, is_pass, ends_step, names_next}
use Rattle.rl_protocol.specs.Line.{Line, IsConsistent}
use Rattle.rl_protocol.specs.State.{State}
use Rattle.rl_protocol.specs.Minds.{row_of, looks_on, heard}
use Rattle.rl_protocol.specs.Steps.{Step, StepFits, next}
use Rattle.rl_protocol.specs.Agreement.{open_attempts, is_under_way, AgreesOnAttempts}
use Rattle.rl_protocol.proofs.Known.{Known}
use Rattle.rl_protocol.proofs.Jobs.{open_begun, open_always, open_heard, open_denied, open_passed, begins_finished, begins_passes, ahead_heard, ahead_denied}
use Rattle.rl_protocol.proofs.Jobs.{ahead_passed}

-- a train that has heard Yes and is under way is within its route
heard_under_way : (line : Line) (t : ℕ) (m : TrainMind) → IsConsistent line → m.step < line.steps t → is_under_way (heard line t m) ≡ true
    → (heard line t m).step < line.steps t
heard_under_way line t m laws on h = of (ends_step m.job) (looks_ahead (row_of line t m)) refl refl
  where
    of : (e l : Bool) → ends_step m.job ≡ e → looks_ahead (row_of line t m) ≡ l → cond (ends_step m.job) (m.step + 1) m.step < line.steps t
    of false l e f = rw e on
    of true true e f = rw e ((laws.rows t m.step on).more f)
    of true false e f = absurd (false≢true (sym (ap not (begins_finished (row_of line t m) (looks_on line t m) (m.left == 0) m.job e f)) ∙ h))

-- and its job is at a row that looks ahead, if it names the segment after the next one
heard_at_next : (line : Line) (t : ℕ) (m : TrainMind) → (names_next m.job ≡ true → looks_ahead (row_of line t m) ≡ true)
    → names_next (heard line t m).job ≡ true → looks_ahead (row_of line t (heard line t m)) ≡ true
heard_at_next line t m old h =
    of (ends_step m.job) refl (ahead_heard (row_of line t m) (looks_on line t m) (m.left == 0) m.job old h)
  where
    of : (e : Bool) → ends_step m.job ≡ e → cond (ends_step m.job) (looks_on line t m) (looks_ahead (row_of line t m)) ≡ true
        → looks_ahead (line.row t (cond (ends_step m.job) (m.step + 1) m.step)) ≡ true
    of true e h = rw e (rw e at h)
    of false e h = rw e (rw e at h)

module _ (line : Line) (tries : ℕ) (s : State) (step : Step) (t : ℕ) (laws : IsConsistent line) (old : AgreesOnAttempts line tries s t)
    (fits : StepFits line s step) (known : Known line s step) where
  total_kept : let m = (next line s step).trains t in m.left + m.step + m.refused + open_attempts m ≡ tries
  total_kept = grind (arith, nat_tests, open_begun, open_always, open_heard, open_denied, open_passed, begins_passes)

  within_kept : ((next line s step).trains t).step ≤ line.steps t
  within_kept = grind (arith, nat_tests, begins_passes)

  under_way_kept : is_under_way ((next line s step).trains t) ≡ true → ((next line s step).trains t).step < line.steps t
  under_way_kept h = let yes = heard_under_way line t (s.trains t) laws in grind (arith, nat_tests, begins_passes, yes)

  ahead_kept : names_next ((next line s step).trains t).job ≡ true → looks_ahead (row_of line t ((next line s step).trains t)) ≡ true
  ahead_kept h = let yes = heard_at_next line t (s.trains t) old.ahead in grind (arith, nat_tests, ahead_denied, ahead_passed, yes)

  pub attempts_kept : AgreesOnAttempts line tries (next line s step) t
  attempts_kept = record { total = total_kept; within = within_kept; under_way = under_way_kept; ahead = ahead_kept }
