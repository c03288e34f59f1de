use Rattle.std.proofs.Common.{ℕ, List, ◌++◌, take}
use Rattle.rl_model.specs.declared.network.SegmentEnd.{SegmentEnd}
use Rattle.rl_drafts.specs.Drafts.{ends_in_box}
use Rattle.rl_net.specs.Ends.{Keeps}
use Rattle.rl_net.proofs.rule_10_ends.EndTable.add_box.Given as goal

abbrev pub invariant-loop-i : goal.invariant-loop-i
invariant-loop-i l =
    (ends : List ℕ → List SegmentEnd) → Keeps l.index.segments l.initial.self.ends ends
    → Keeps l.index.segments l.self.ends (λ name. ends name ++ ends_in_box l.b 0 (take l.i l.arms) name)
