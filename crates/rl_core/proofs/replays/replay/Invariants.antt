use Rattle.std.proofs.Common.{◌≡◌, take}
use Rattle.rl_core.specs.Cores.{LeadsTo}
use Rattle.rl_core.specs.Replays.{replayed}
use Rattle.rl_core.proofs.replays.replay.Given as goal

abbrev pub invariant-loop-i : goal.invariant-loop-i
invariant-loop-i l = record {
  leads : LeadsTo (replayed (take l.i l.event-items)) l.core;
  line : l.core.line ≡ l.fn.line;
  tries : l.core.tries ≡ l.fn.tries;
}
