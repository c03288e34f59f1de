-- Right reports: what is counted, which fate fits, and that the moves are a safe run.
use Rattle.std.specs.Prelude.{◌≡◌, ℕ, ◌+◌, ◌<◌, ◌≤◌, ◌==◌, Bool, true, false, ◌&&◌, List, length, count_by, slice_get, Some}
use Rattle.rl_base.specs.declared.limits.TheConstants.{MIN_TRIES, MAX_MOVES}
use Rattle.rl_base.specs.Tries.{AreFewTries}
use Rattle.rl_model.specs.declared.moves.Move.{Move}
use Rattle.rl_model.specs.declared.moves.Move.TheVariants.{Leave, Refuse, Bar}
use Rattle.rl_model.specs.declared.network.NetworkPlan.{NetworkPlan}
use Rattle.rl_model.specs.declared.report.Fate.{Fate}
use Rattle.rl_model.specs.declared.report.Fate.TheVariants.{Arrived, Spent, Underway}
use Rattle.rl_model.specs.declared.report.Outcome.{Outcome}
use Rattle.rl_model.specs.declared.report.Report.{Report}
use Rattle.rl_model.specs.Network.{has_end, steps_of}
use Rattle.rl_model.specs.World.{World}
use Rattle.rl_model.specs.Moves.{Guards, done, guard, AllHold, IsMoveOf}
use Rattle.rl_model.specs.Safety.{IsSafeRun, world_after}

-- the move is a Leave of train t
abbrev pub is_leave : ℕ → Move → Bool
is_leave t (Leave x s) = x.0 == t
is_leave t _ = false

-- the move is a Refuse or a Bar that train t met
abbrev pub is_refusal : ℕ → Move → Bool
is_refusal t (Refuse x s b u) = x.0 == t
is_refusal t (Bar x b u) = x.0 == t
is_refusal t _ = false

-- how many steps train t made, and how many refusals it met
abbrev pub made_in : List Move → ℕ → ℕ
made_in moves t = count_by (is_leave t) moves

abbrev pub refused_in : List Move → ℕ → ℕ
refused_in moves t = count_by (is_refusal t) moves

-- train t isn't across a box, occupies a segment, holds that at both ends and nothing else, and has no lock
pub record Rests (net : NetworkPlan) (w : World) (t : ℕ) : Type 0 where
  pub off : (b from to : ℕ) → w.across t b from to ≡ false
  pub segment : ℕ
  pub stands : w.occupies t segment ≡ true
  pub holds : (s b : ℕ) → w.holds t s b ≡ (s == segment && has_end net s b)
  pub unlocked : (b from to : ℕ) → w.locked b t from to ≡ false

-- the fate fits train t, which made so many steps, met so many refusals and stands so in the end
abbrev pub FateFits : NetworkPlan → ℕ → World → ℕ → ℕ → ℕ → Fate → Type 0
FateFits net tries w t made refused Arrived = (made ≡ steps_of net t) × Rests net w t
FateFits net tries w t made refused Spent = (made < steps_of net t) × (made + refused ≡ tries) × Rests net w t
FateFits net tries w t made refused Underway = made + refused ≤ tries

-- the guards of the outcome of train t: the counted numbers, and a fate that fits
abbrev pub outcome_guards : NetworkPlan → ℕ → List Move → ℕ → Outcome → Guards
outcome_guards net tries moves t o =
    guard 25 ((o.made ≡ made_in moves t) × (o.refused ≡ refused_in moves t))
    (guard 26 (FateFits net tries (world_after net moves) t o.made o.refused o.fate) done)

-- both hold
abbrev pub IsRightOutcome : NetworkPlan → ℕ → List Move → ℕ → Outcome → Type 0
IsRightOutcome net tries moves t o = AllHold (outcome_guards net tries moves t o)

-- the moves are a safe run, and each train has its right outcome
pub record IsRightReport (net : NetworkPlan) (report : Report) : Type 0 where
  pub run : IsSafeRun net report.moves
  pub trains : length report.outcomes ≡ length net.trains
  pub outcomes : (t : ℕ) (o : Outcome) → slice_get report.outcomes t ≡ Some o
      → IsRightOutcome net report.tries report.moves t o

-- what a report of the network has in range: the tries, moves of the network, and an outcome for each train whose
-- numbers are no more than a report has moves
pub record IsReportOf (net : NetworkPlan) (report : Report) : Type 0 where
  pub some_tries : MIN_TRIES ≤ report.tries
  pub few_tries : AreFewTries report.tries
  pub moves : (k : ℕ) (m : Move) → slice_get report.moves k ≡ Some m → IsMoveOf net m
  pub trains : length report.outcomes ≡ length net.trains
  pub outcomes : (t : ℕ) (o : Outcome) → slice_get report.outcomes t ≡ Some o
      → (o.made ≤ MAX_MOVES) × (o.refused ≤ MAX_MOVES)
