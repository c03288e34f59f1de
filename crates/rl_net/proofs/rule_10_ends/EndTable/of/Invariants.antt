use Rattle.std.proofs.Common.{take}
use Rattle.rl_drafts.specs.Drafts.{ends_from}
use Rattle.rl_net.specs.Ends.{Keeps}
use Rattle.rl_net.proofs.rule_10_ends.EndTable.of.Given as goal

abbrev pub invariant-loop-b : goal.invariant-loop-b
invariant-loop-b l = Keeps l.index.segments l.table.ends (ends_from 0 (take l.b l.index.boxes))
