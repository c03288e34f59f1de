use Rattle.std.proofs.Common.{◌≡◌, ℕ, ◌<◌, false, length, take}
use Rattle.rl_ends.specs.EndsDrafts.{named_arms}
use Rattle.rl_ends.specs.EndRules.{end_breaks}
use Rattle.rl_ends.specs.Tables.{Keeps}
use Rattle.rl_ends.proofs.arm_table.ArmTable.of.Given as goal

abbrev pub invariant-loop-k : goal.invariant-loop-k
invariant-loop-k l =
    Keeps (length l.draft.boxes) (take l.k (named_arms l.draft)) l.table.ends.items × ((j : ℕ) → j < l.k → end_breaks l.draft 24 j ≡ false)
