use Rattle.std.proofs.Common.{sym, subst}
use Rattle.rl_model.specs.Safety.{IsKept}
use Rattle.rl_model.specs.World.{start}
use Rattle.rl_protocol.specs.Counts.{HasTrains}
use Rattle.rl_protocol.specs.TableLine.{line_of}
use Rattle.rl_steps.specs.Run.{state}
use Rattle.rl_safety.specs.Moves.{moves_of}
use Rattle.rl_safety.specs.Reading.{read}
use Rattle.rl_safety.proofs.KeptWorlds.{kept_after_moves}
use Rattle.rl_safety.proofs.Ranges.{names_what_is_there}
use Rattle.rl_safety.proofs.worlds.worlds_of_runs.Goals as goal

pub returns : goal.returns
returns c =
    record {
      named = λ net tables tries events network are few run.
          let line = c.tables_of_networks.ensures.line net tables network are in
          let railway = c.lines_of_tables.ensures.railway net tables network line are in
          names_what_is_there net (line_of tables) tries (read tables tries (state tables tries events)) network railway.line_is
          (subst (HasTrains (line_of tables)) are.trains.length_is (c.lines_of_tables.ensures.trains tables))
          (c.agreement.ensures tables tries events line few run);
      kept = λ net tables tries events network are few run.
          let safe = c.safe_runs-2.ensures.runs net tables tries events network are few run in
          subst (IsKept net) (sym (c.safe_runs-2.ensures.world net tables tries events network are few run))
          (kept_after_moves c.safe_runs.ensures.kept net (start net) (moves_of tables events) (c.safe_runs.ensures.start net network) safe.guarded);
    }
