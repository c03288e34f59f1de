use Rattle.std.proofs.Common.{◌≡◌, take}
use Rattle.toml.specs.View.{items_view}
use Rattle.rl_syntax.specs.DraftTable.{tables, box_table}
use Rattle.rl_syntax.proofs.writing.boxes_value.Given as goal

-- the boxes so far are in the array
abbrev pub invariant-loop-draft : goal.invariant-loop-draft
invariant-loop-draft l = items_view l.items.items ≡ tables box_table (take l.draft-index l.boxes)
