-- What was found of a report, as far as it was read.
use Rattle.std.specs.Prelude.{◌≡◌, ℕ, ◌≤◌, List, [], length, slice_get, Option, Some, None, ◌⊎◌}
use Rattle.rl_model.specs.declared.moves.Move.{Move}
use Rattle.rl_model.specs.declared.network.NetworkPlan.{NetworkPlan}
use Rattle.rl_model.specs.declared.report.Outcome.{Outcome}
use Rattle.rl_model.specs.declared.report.Report.{Report}
use Rattle.rl_model.specs.Moves.{Guards, AllHold, FirstFails, guard, done}
use Rattle.rl_model.specs.Safety.{Guarded, world_after}
use Rattle.rl_model.specs.Reports.{FateFits, IsRightOutcome}
use Rattle.rl_text.specs.Lines.{Reading}
use Rattle.rl_domain.specs.Rows.{Rows, world_of, Fits}
use Rattle.rl_report.specs.Grammar.{most_moves}
use Rattle.rl_report.specs.Reading.{HasMoves, HasRead}
use Rattle.rl_audit.specs.declared.counts.Count.{Count}
use Rattle.rl_audit.specs.declared.judge.Judge.{Judge}
use Rattle.rl_audit.specs.declared.judge.Failure.{Failure}
use Rattle.rl_audit.specs.declared.verdict.Verdict.{Verdict}
use Rattle.rl_audit.specs.declared.verdict.Verdict.TheVariants.{Safe, Bad}
use Rattle.rl_audit.specs.Counting.{AreCounts}
use Rattle.rl_audit.specs.Verdicts.{IsFirstBadMove, IsFirstBadOutcome}

-- no guard of these moves fails, and the world and the counts are theirs
pub record IsGood (net : NetworkPlan) (moves : List Move) (rows : Rows) (counts : List Count) : Type 0 where
  pub guarded : Guarded net moves
  pub world : world_of net rows ≡ world_after net moves
  pub counted : AreCounts moves counts

-- these moves were read
pub record HasJudged (net : NetworkPlan) (moves : List Move) (j : Judge) : Type 0 where
  pub fits : Fits net j.world
  pub trains : length j.counts.items ≡ length net.trains
  pub count : j.moves ≡ length moves
  pub good : j.failure ≡ None → IsGood net moves j.world j.counts.items
  pub bad : (f : Failure) → j.failure ≡ Some f → IsFirstBadMove net moves f.line f.guard

-- these outcomes were read behind the moves
pub record HasJudgedTrains (net : NetworkPlan) (report : Report) (j : Judge) : Type 0 where
  pub fits : Fits net j.world
  pub trains : length j.counts.items ≡ length net.trains
  pub count : j.moves ≡ length report.moves
  pub good : j.failure ≡ None → IsGood net report.moves j.world j.counts.items
  pub right : j.failure ≡ None → (t : ℕ) (o : Outcome) → slice_get report.outcomes t ≡ Some o
      → IsRightOutcome net report.tries report.moves t o
  pub bad : (f : Failure) → j.failure ≡ Some f
      → IsFirstBadMove net report.moves f.line f.guard ⊎ IsFirstBadOutcome net report f.line f.guard

-- the guards of the outcome of train t, in the words of its count and of the world
abbrev pub counted_guards : NetworkPlan → ℕ → Judge → Count → ℕ → Outcome → Guards
counted_guards net tries j x t o =
    guard 25 ((o.made ≡ x.made) × (o.refused ≡ x.refused))
    (guard 26 (FateFits net tries (world_of net j.world) t o.made o.refused o.fate) done)

-- both hold, or the one that fails first
abbrev pub OutcomeTested : NetworkPlan → ℕ → Judge → ℕ → Outcome → Option ℕ → Type 0
OutcomeTested net tries j t o None =
    (x : Count) → slice_get j.counts.items t ≡ Some x → AllHold (counted_guards net tries j x t o)
OutcomeTested net tries j t o (Some n) =
    (x : Count) → slice_get j.counts.items t ≡ Some x → FirstFails n (counted_guards net tries j x t o)

-- the verdict says what was found
abbrev pub VerdictIs : Judge → Verdict → Type 0
VerdictIs j (Safe moves) = (j.failure ≡ None) × (moves ≡ j.moves)
VerdictIs j (Bad line number) = j.failure ≡ Some (record { line = line; guard = number })

-- some moves were read and judged from the start on
pub record JudgedMoves (net : NetworkPlan) (old new : Reading) (j : Judge) : Type 0 where
  pub moves : List Move
  pub few : length moves ≤ most_moves
  pub read : (text : List ℕ) → HasMoves net text [] old → HasMoves net text moves new
  pub judged : HasJudged net moves j

-- of so many trains the outcomes were read and judged
pub record JudgedTrains (net : NetworkPlan) (tries count : ℕ) (old new : Reading) (before after : Judge) : Type 0 where
  pub outcomes : List Outcome
  pub counted : length outcomes ≡ count
  pub read : (text : List ℕ) (report : Report) → HasRead net text report old → report.outcomes ≡ []
      → HasRead net text (record report { outcomes = outcomes }) new
  pub judged : (report : Report) → report.tries ≡ tries → report.outcomes ≡ [] → HasJudgedTrains net report before
      → HasJudgedTrains net (record report { outcomes = outcomes }) after
  pub none : outcomes ≡ [] → new ≡ old
