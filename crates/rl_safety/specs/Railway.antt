-- The segments at the arms of a box, by their numbers.
use Rattle.std.specs.Prelude.{ℕ, unwrap_or}
use Rattle.rl_base.specs.declared.ids.BoxId.{BoxId}
use Rattle.rl_base.specs.declared.ids.SegId.{SegId}
use Rattle.rl_tables.specs.declared.table.Tables.{Tables}
use Rattle.rl_tables.specs.Kept.{line_segment}

-- the segment at an arm of a box
abbrev pub segment_of : Tables → BoxId → ℕ → SegId
segment_of tables b x = record { 0 = unwrap_or (line_segment tables b.0 x) 0 }
