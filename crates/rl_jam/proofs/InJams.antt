-- What each train of a jam has.
use Rattle.std.proofs.Common.{◌≡◌, ◌≢◌, ℕ, zero, suc, ◌<◌, List, [], ◌∷◌, length, slice_get, Some, sym, ◌∙◌, subst, arith}
use Rattle.std.specs.List.{AllByRecursion}
use Rattle.std.proofs.lemmas.Option.{same_Some}
use Rattle.rl_model.specs.declared.moves.Move.{Move}
use Rattle.rl_model.specs.declared.moves.Move.TheVariants.{Refuse, Bar}
use Rattle.rl_model.specs.declared.network.NetworkPlan.{NetworkPlan}
use Rattle.rl_model.specs.declared.report.Fate.{Fate}
use Rattle.rl_model.specs.declared.report.Report.{Report}
use Rattle.rl_model.specs.Network.{IsTrainOf}
use Rattle.rl_model.specs.World.{World, start}
use Rattle.rl_model.specs.Moves.{AllHold, guards, after, IsMoveOf}
use Rattle.rl_model.specs.Safety.{GuardedFrom, world_after}
use Rattle.rl_model.specs.Reports.{FateFits, IsRightReport, IsReportOf}
use Rattle.rl_jam.specs.declared.waits.WaitRow.{WaitRow}
use Rattle.rl_jam.specs.Jams.{Refuses, IsWait, IsJam, AreJams}
use Rattle.rl_jam.specs.Stuck.{IsStuck}
use Rattle.rl_jam.proofs.Lists.{all_get, all_weaker}
use Rattle.rl_jam.proofs.Refused.{spent_within}

stuck : (net : NetworkPlan) (report : Report) (row : WaitRow) → IsRightReport net report → IsWait report row → IsStuck net report row.t.0
stuck net report row right wait =
    let spent = wait.spent in
    let hold = right.outcomes row.t.0 spent.outcome spent.there in
    let counts = hold.0 in
    let fits = subst (λ (fate : Fate). FateFits net report.tries (world_after net report.moves) row.t.0 spent.outcome.made spent.outcome.refused fate)
    spent.fate hold.1.0 in
    let made = counts.0 in
    let refused = counts.1 in
    let before = fits.0 in
    let all = fits.1 in
    record { rests = fits.2; before_its_end = omega arith; attempts = omega arith }

pub all_stuck : (net : NetworkPlan) (report : Report) (t : ℕ) (rows : List WaitRow) → IsRightReport net report → IsJam report t rows
    → AllByRecursion (λ (row : WaitRow). IsStuck net report row.t.0) rows
all_stuck net report t rows right jam =
    all_weaker (IsWait report) (λ (row : WaitRow). IsStuck net report row.t.0) rows (λ row wait. stuck net report row right wait) jam.waits

-- the guards of the move at a place of a guarded list hold in some world
guarded_at : (net : NetworkPlan) (w : World) (moves : List Move) (k : ℕ) (m : Move) → GuardedFrom net w moves → slice_get moves k ≡ Some m
    → (v : World) × AllHold (guards net v m)
guarded_at net w [] k m guarded at = absurd (cc)
guarded_at net w (x ∷ moves) zero m guarded at = (w, subst (λ (y : Move). AllHold (guards net w y)) (same_Some x m at) guarded.0)
guarded_at net w (x ∷ moves) (suc k) m guarded at = guarded_at net (after w x) moves k m guarded.1 at

another : (net : NetworkPlan) (w : World) (m : Move) (t u : ℕ) → AllHold (guards net w m) → Refuses m t u → u ≢ t
another net w (Refuse x s b y) t u hold is = λ same. hold.1.0.0 (is.1 ∙ same ∙ sym is.0)
another net w (Bar x b y) t u hold is = λ same. hold.0.0 (is.1 ∙ same ∙ sym is.0)
another net w _ t u hold is = absurd is

pub all_by_another : (net : NetworkPlan) (report : Report) (t : ℕ) (rows : List WaitRow) → IsRightReport net report → IsJam report t rows
    → AllByRecursion (λ (row : WaitRow). row.u.0 ≢ row.t.0) rows
all_by_another net report t rows right jam =
    all_weaker (IsWait report) (λ (row : WaitRow). row.u.0 ≢ row.t.0) rows (λ row wait.
    let last = wait.last in
    let hold = guarded_at net (start net) report.moves last.place last.move right.run.guarded last.there in
    another net hold.0 last.move row.t.0 row.u.0 hold.1 last.refuses) jam.waits

by_train : (net : NetworkPlan) (m : Move) (t u : ℕ) → IsMoveOf net m → Refuses m t u → u < length net.trains
by_train net (Refuse x s b y) t u of is = subst (λ (k : ℕ). k < length net.trains) is.1 of.3
by_train net (Bar x b y) t u of is = subst (λ (k : ℕ). k < length net.trains) is.1 of.2
by_train net _ t u of is = absurd is

pub in_range : (net : NetworkPlan) (report : Report) (jams : List (List WaitRow)) (j k : ℕ) (rows : List WaitRow) (row : WaitRow) → IsReportOf net report
    → AreJams report jams → slice_get jams j ≡ Some rows → slice_get rows k ≡ Some row → IsTrainOf net row.t × IsTrainOf net row.u
in_range net report jams j k rows row of are at at2 =
    let jam = (are.each j rows at).1 in
    let wait = all_get (IsWait report) rows k row jam.waits at2 in
    let last = wait.last in (
      subst (λ (n : ℕ). row.t.0 < n) of.trains (spent_within report row.t.0 wait.spent),
      by_train net last.move row.t.0 row.u.0 (of.moves last.place last.move last.there) last.refuses,
    )
