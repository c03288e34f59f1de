use Rattle.std.proofs.Common.{◌≤◌, ℕ, length, sym, subst}
use Rattle.rl_base.specs.Tries.{AreFewTries}
use Rattle.rl_base.specs.declared.limits.TheConstants.{MAX_MOVES}
use Rattle.rl_model.specs.declared.network.NetworkPlan.{NetworkPlan}
use Rattle.rl_model.specs.declared.report.Report.{Report}
use Rattle.rl_model.specs.Network.{IsNetwork}
use Rattle.rl_safety.specs.Counts.{attempts_of}
use Rattle.rl_safety.specs.Moves.{moves_of}
use Rattle.relis.specs.Runs.{IsRunReport}
use Rattle.relis.specs.Judged.{IsCalledSafe}
use Rattle.relis.proofs.Audited.{called_safe}
use Rattle.relis.proofs.RunLaws.{few_moves}
use Rattle.relis.proofs.laws.runs_are_safe.Goals as goal

pub returns : goal.returns
returns c =
    let few : (net : NetworkPlan) (tries : ℕ) (report : Report) → IsNetwork net → AreFewTries tries → IsRunReport net tries report
    → length report.moves ≤ MAX_MOVES =
    λ net tries report is less ran.
    let tables = ran.tables in
    let events = ran.to_rest.events in
    let line = c.tables_of_networks.ensures.line net tables is ran.of_network in
    let made = c.counted_events.ensures.moves tables tries events line less ran.to_rest.run in
    let opened = c.counted_events.ensures.opened tables tries events in
    subst (λ (r : Report). length r.moves ≤ MAX_MOVES) (sym ran.to_rest.report_is)
    (few_moves tables tries (attempts_of tables tries events) (length (moves_of tables events)) line less opened made) in
    record {
      few = few;
      safe = λ net tries text is less printed.
          let ran : IsRunReport net tries printed.report = printed.of_run in
          subst (IsCalledSafe net) (sym printed.text_is)
          (called_safe net printed.report is (record { formed = ran.formed; right = ran.right }) (few net tries printed.report is less ran));
    }
