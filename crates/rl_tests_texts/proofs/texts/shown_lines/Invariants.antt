use Rattle.std.proofs.Common.{length}
use Rattle.rl_tests_texts.proofs.texts.shown_lines.Given as goal

abbrev pub decreases-loop-line : goal.decreases-loop-line
decreases-loop-line l = length l.tokens.left
