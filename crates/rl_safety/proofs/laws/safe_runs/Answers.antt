use Rattle.std.proofs.Common.{slice_get, sym, ap, ◌∙◌, subst}
use Rattle.rl_model.specs.Safety.{IsSafeRun, world_after}
use Rattle.rl_protocol.specs.TableLine.{line_of}
use Rattle.rl_protocol.specs.Worlds.{world_at}
use Rattle.rl_safety.proofs.laws.safe_runs.Goals as goal

pub returns : goal.returns
returns c =
    record {
      runs = λ net tables tries events network are few run.
          let line = c.tables_of_networks.ensures.line net tables network are in
          let is = c.steps_of_events.ensures tables tries events line few run in
          let railway = c.lines_of_tables.ensures.railway net tables network line are in
          subst (IsSafeRun net) (sym is.moves) (c.safe_runs_of_steps.ensures.runs net (line_of tables) tries is.steps railway is.run);
      world = λ net tables tries events network are few run.
          let line = c.tables_of_networks.ensures.line net tables network are in
          let is = c.steps_of_events.ensures tables tries events line few run in
          let railway = c.lines_of_tables.ensures.railway net tables network line are in
          ap (world_at net) is.state
          ∙ c.safe_runs_of_steps.ensures.world net (line_of tables) tries is.steps railway is.run
          ∙ ap (world_after net) (sym is.moves);
      named = λ net tables tries events network are few run k m there.
          let line = c.tables_of_networks.ensures.line net tables network are in
          let is = c.steps_of_events.ensures tables tries events line few run in
          let railway = c.lines_of_tables.ensures.railway net tables network line are in
          c.safe_runs_of_steps.ensures.named net (line_of tables) tries is.steps railway is.run k m
          (ap (λ ms. slice_get ms k) (sym is.moves) ∙ there);
    }
