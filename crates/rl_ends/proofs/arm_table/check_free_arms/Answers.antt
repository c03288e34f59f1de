use Rattle.std.proofs.Common.{arith}
use Rattle.rl_ends.proofs.Rules.{kept_boxes}
use Rattle.rl_ends.proofs.arm_table.check_free_arms.Goals as goal

pub returns-clause-kept : goal.returns-clause-kept
returns-clause-kept c = kept_boxes c.args.draft.now c.loop-i.i (omega arith) c.loop-i.invariant
