use Rattle.std.proofs.Common.{ℕ, List, sym, ap, ◌∙◌, subst, arith}
use Rattle.rl_base.specs.Tries.{AreFewTries}
use Rattle.rl_model.specs.declared.network.NetworkPlan.{NetworkPlan}
use Rattle.rl_model.specs.Network.{IsNetwork}
use Rattle.rl_model.specs.Reports.{Rests}
use Rattle.rl_model.specs.World.{World}
use Rattle.rl_record.specs.declared.event.Event.{Event}
use Rattle.rl_tables.specs.declared.table.Tables.{Tables}
use Rattle.rl_tables.specs.Tables.{AreTablesOf}
use Rattle.rl_steps.specs.Run.{IsRun}
use Rattle.rl_safety.specs.Moves.{moves_of}
use Rattle.rl_safety.proofs.Outcomes.{IsAccounted, outcomes_trains, right_outcomes, few_outcomes, ended_outcome}
use Rattle.rl_safety.proofs.laws.right_reports.Goals as goal

pub returns : goal.returns
returns c =
    let accounted : (net : NetworkPlan) (tables : Tables) (tries : ℕ) (events : List Event) → IsNetwork net → AreTablesOf net tables → AreFewTries tries
    → IsRun tables tries events → IsAccounted net tables tries events =
    λ net tables tries events network are few run.
    let line = c.tables_of_networks.ensures.line net tables network are in
    let railway = c.lines_of_tables.ensures.railway net tables network line are in
    let world = c.safe_runs.ensures.world net tables tries events network are few run in
    record {
      trains = are.trains.length_is;
      steps = railway.line_is.steps;
      agrees = c.agreement.ensures tables tries events line few run;
      made = λ t. c.counted_leaves.ensures net (moves_of tables events) t ∙ ap (λ (w : World). w.made t) (sym world);
      refused = λ t. c.counted_refusals.ensures tables tries events t line few run;
      rests = λ t there rest.
          let R : World → Type 0 = λ w. Rests net w t in
          subst R world (c.trains_at_rest.ensures.each net tables tries events t network are few run there rest);
    } in
    record {
      right = λ net tables tries events network are some few run.
          let by = accounted net tables tries events network are few run in
          record {
            run = c.safe_runs.ensures.runs net tables tries events network are few run;
            trains = outcomes_trains net tables tries events by;
            outcomes = right_outcomes net tables tries events by;
          };
      of = λ net tables tries events network are some few run.
          let by = accounted net tables tries events network are few run in
          record {
            some_tries = some;
            few_tries = few;
            moves = c.safe_runs.ensures.named net tables tries events network are few run;
            trains = outcomes_trains net tables tries events by;
            outcomes = λ t o at. let numbers = few_outcomes net tables tries events by t o at in (omega arith, omega arith);
          };
      ended = ended_outcome;
    }
