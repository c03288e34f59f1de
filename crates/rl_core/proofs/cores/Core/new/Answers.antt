use Rattle.std.proofs.Common.{arith}
use Rattle.rl_steps.specs.Turn.{start_drive}
use Rattle.rl_core.proofs.Started.{start_leads, start_sizes}
use Rattle.rl_core.proofs.Watching.{watches_start}
use Rattle.rl_core.proofs.cores.Core.new.Goals as goal

pub invariant_of-result : goal.invariant_of-result
invariant_of-result c = (
  rw (c.in_ok-words.ensures.words, c.in_ok-clocks.ensures, c.in_ok-scans.ensures) record {
    drive = start_drive;
    leads = start_leads c.args.line.now c.args.tries c.in_ok-minds.minds.items c.in_ok-minds.ensures.minds;
    places = λ n there. omega arith;
    sizes = start_sizes c.args.line.now c.args.tries c.in_ok-minds.minds.items c.in_ok-minds.ensures.minds;
    line = c.start_minds.ensures.line;
    some_tries = c.requires.some_tries;
    few_tries = c.requires.few_tries;
    few = omega arith;
  },
  rw c.in_ok-watches.ensures (watches_start c.args.line.now c.in_ok-minds.minds.items),
)

pub returns-clause-start : goal.returns-clause-start
returns-clause-start c =
    rw (c.in_ok-words.ensures.words, c.in_ok-clocks.ensures, c.in_ok-scans.ensures)
    (start_leads c.args.line.now c.args.tries c.in_ok-minds.minds.items c.in_ok-minds.ensures.minds)
