use Rattle.std.proofs.Common.{arith}
use Rattle.rl_ends.proofs.Rules.{kept_ends}
use Rattle.rl_ends.proofs.rules_21_to_23.check_texts.Goals as goal

pub returns-clause-kept : goal.returns-clause-kept
returns-clause-kept c = kept_ends c.args.draft.now 21 c.loop-k.k (omega arith) (omega arith) c.loop-k.invariant
