-- What follows of the report of a run.
use Rattle.std.proofs.Common.{◌≡◌, ◌+◌, ◌*◌, ◌<◌, ◌≤◌, ◌⊎◌, ℕ, List, length, slice_get, Some, refl, sym, ap, ◌∙◌, subst, inl, inr, ⊎_elim, arith}
use Rattle.std.proofs.lemmas.Nat.{mul-le}
use Rattle.rl_base.specs.Tries.{AreFewTries}
use Rattle.rl_base.specs.declared.limits.TheConstants.{MAX_ATTEMPT_MOVES, MAX_MOVES, MAX_TRAINS, MAX_TRIES}
use Rattle.rl_model.specs.declared.moves.Move.{Move}
use Rattle.rl_model.specs.declared.network.NetworkPlan.{NetworkPlan}
use Rattle.rl_model.specs.declared.report.Fate.{Fate}
use Rattle.rl_model.specs.declared.report.Fate.TheVariants.{Arrived, Spent, Underway}
use Rattle.rl_model.specs.declared.report.Outcome.{Outcome}
use Rattle.rl_model.specs.declared.report.Report.{Report}
use Rattle.rl_model.specs.Network.{IsNetwork, steps_of}
use Rattle.rl_model.specs.Reports.{FateFits, IsRightReport, refused_in}
use Rattle.rl_model.specs.Safety.{world_after}
use Rattle.rl_model.specs.World.{World}
use Rattle.rl_record.specs.declared.event.Event.{Event}
use Rattle.rl_steps.specs.Run.{IsRun}
use Rattle.rl_safety.specs.Counts.{attempts_of}
use Rattle.rl_safety.specs.Moves.{moves_of}
use Rattle.rl_tables.specs.declared.table.Tables.{Tables}
use Rattle.rl_tables.specs.Kept.{IsLine}

-- at most 32 trains with at most 1,000 attempts each, and ten moves for each attempt
pub few_moves : (tables : Tables) (tries attempts moves : ℕ) → IsLine tables → AreFewTries tries → attempts ≤ length tables.trains * tries
    → moves ≤ MAX_ATTEMPT_MOVES * attempts → moves ≤ MAX_MOVES
few_moves tables tries attempts moves line few opened made =
    omega (arith, mul-le (length tables.trains) tries MAX_TRAINS MAX_TRIES line.few_trains few)

pub fate_spent : (net : NetworkPlan) (tries t made refused : ℕ) (w : World) (fate : Fate) → fate ≡ Spent → FateFits net tries w t made refused fate
    → made + refused ≡ tries
fate_spent net tries t made refused w fate is fits =
    let spent : FateFits net tries w t made refused Spent = subst (λ (f : Fate). FateFits net tries w t made refused f) is fits in
    spent.1

pub fate_arrived : (net : NetworkPlan) (tries t made refused : ℕ) (w : World) (fate : Fate) → (fate ≡ Arrived) ⊎ (fate ≡ Spent)
    → FateFits net tries w t made refused fate → refused ≡ 0 → steps_of net t ≤ tries → fate ≡ Arrived
fate_arrived net tries t made refused w fate (inl is) fits none enough = is
fate_arrived net tries t made refused w fate (inr is) fits none enough =
    let spent : FateFits net tries w t made refused Spent = subst (λ (f : Fate). FateFits net tries w t made refused f) is fits in
    let short = spent.0 in
    let all = spent.1 in
    absurd (omega arith)
