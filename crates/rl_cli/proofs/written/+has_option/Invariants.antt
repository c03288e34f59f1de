use Rattle.std.proofs.Common.{length}
use Rattle.rl_cli.proofs.written.+has_option.Given as goal

abbrev pub decreases-has_option : goal.decreases-has_option
decreases-has_option l = length l.words.now
