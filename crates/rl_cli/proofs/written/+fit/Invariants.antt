use Rattle.std.proofs.Common.{length}
use Rattle.rl_cli.proofs.written.+fit.Given as goal

abbrev pub decreases-fit : goal.decreases-fit
decreases-fit l = length l.items.now
