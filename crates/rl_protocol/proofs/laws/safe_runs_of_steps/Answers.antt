use Rattle.rl_protocol.proofs.Safe.{start_world, step_move, step_stays, followed, safe}
use Rattle.rl_protocol.proofs.Named.{run_named}
use Rattle.rl_protocol.proofs.laws.safe_runs_of_steps.Goals as goal

pub returns : goal.returns
returns c =
    record {
      start = start_world;
      guarded = λ net line tries s step m is old fits h. (step_move net line tries s step m is old fits h).guarded;
      moved = λ net line tries s step m is old fits h. (step_move net line tries s step m is old fits h).world;
      unmoved = step_stays;
      named = run_named;
      world = λ net line tries steps is run. (followed net line tries steps is run).world;
      runs = safe;
    }
