use Rattle.std.proofs.Common.{◌≡◌, ℕ, ◌<◌, false, map, take, Some}
use Rattle.rl_model.specs.declared.network.SegmentEnd.{SegmentEnd}
use Rattle.rl_ends.specs.EndsDrafts.{named_arms}
use Rattle.rl_ends.specs.EndRules.{end_breaks}
use Rattle.rl_ends.proofs.rules_21_to_23.arms_named.Given as goal

abbrev pub invariant-loop-k : goal.invariant-loop-k
invariant-loop-k l =
    (map (λ (e : SegmentEnd). Some e) l.arms ≡ take l.k (named_arms l.draft)) × ((j : ℕ) → j < l.k → end_breaks l.draft 22 j ≡ false)
