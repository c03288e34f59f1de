use Rattle.std.proofs.Common.{◌≡◌, slice_get, Some, sym}
use Rattle.rl_net.proofs.Passages.{start_is_shared, start_is_own, no_start}
use Rattle.rl_net.proofs.rule_15_starts.shared_start.Goals as goal
use Rattle.rl_net.proofs.rule_15_starts.shared_start.Goals.{else-not-is_empty-via-then-not-is_empty+else-is_start_of_earlier, else-not-is_empty-via-else-not-is_empty}

pub returns-then-is_start_of_earlier : goal.returns-then-is_start_of_earlier
returns-then-is_start_of_earlier c =
    let first : slice_get c.at.result.now.route 0 ≡ Some c.bytes.result.now = cc in
    sym (start_is_shared c.args.draft.now c.args.i c.at.result.now c.bytes.result.now c.at.ensures.there first (cc))

pub returns-else-not-is_empty : goal.returns-else-not-is_empty
returns-else-not-is_empty c =
    elim c.else-not-is_empty.branch [
      | else-not-is_empty-via-then-not-is_empty+else-is_start_of_earlier w ↦
          (let first : slice_get c.at.result.now.route 0 ≡ Some w.bytes.result.now = cc in
          sym (start_is_own c.args.draft.now c.args.i c.at.result.now w.bytes.result.now c.at.ensures.there first (cc)))
      | else-not-is_empty-via-else-not-is_empty w ↦ sym (no_start c.args.draft.now c.args.i c.at.result.now c.at.ensures.there (c.is_empty.ensures.0 (cc)))
    ]
