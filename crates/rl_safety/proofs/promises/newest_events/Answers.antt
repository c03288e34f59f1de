use Rattle.std.proofs.Common.{◌∷◌, ◌++◌, length, slice_get, Option, ap, ◌∙◌}
use Rattle.std.specs.Prelude.{option_to_list}
use Rattle.rl_base.proofs.Lists.{slice_get-push}
use Rattle.rl_model.specs.declared.moves.Move.{Move}
use Rattle.rl_steps.specs.Run.{state}
use Rattle.rl_safety.specs.Moves.{moves_of}
use Rattle.rl_safety.proofs.Newest.{newest_step, StepLaws, guarded_step}
use Rattle.rl_safety.proofs.promises.newest_events.Goals as goal

pub returns : goal.returns
returns c =
    let laws : StepLaws = record {
      guarded = c.safe_runs_of_steps.ensures.guarded;
      moved = c.safe_runs_of_steps.ensures.moved;
      unmoved = c.safe_runs_of_steps.ensures.unmoved;
    } in
    record {
      step = λ tables tries e earlier line few run. newest_step tables tries e earlier (c.steps_of_events.ensures tables tries (e ∷ earlier) line few run);
      guarded = λ net tables tries e earlier network are few run.
          let line = c.tables_of_networks.ensures.line net tables network are in
          let railway = c.lines_of_tables.ensures.railway net tables network line are in
          let found = newest_step tables tries e earlier (c.steps_of_events.ensures tables tries (e ∷ earlier) line few run) in
          let earlier_moves = moves_of tables earlier in
          guarded_step laws net tables tries (state tables tries earlier) e found.0 railway
          (c.agreement.ensures tables tries earlier line few run.0) found.1
          (λ m is. c.safe_runs.ensures.named net tables tries (e ∷ earlier) network are few run (length earlier_moves) m
          (ap (λ (o : Option Move). slice_get (earlier_moves ++ option_to_list o) (length earlier_moves)) is
          ∙ slice_get-push earlier_moves m));
    }
