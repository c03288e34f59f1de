-- The line that tables say.
use Rattle.std.specs.Prelude.{ℕ, zero, suc, length, slice_get, Option, Some, None, is_some, option_map, option_and_then}
use Rattle.std.specs.Prelude.{unwrap_or}
use Rattle.std.specs.Option.{option_map_or}
use Rattle.rl_base.specs.declared.kind.Side.TheVariants.{Left}
use Rattle.rl_tables.specs.declared.table.BoxTable.{BoxTable}
use Rattle.rl_tables.specs.declared.table.StepRow.{StepRow}
use Rattle.rl_tables.specs.declared.table.TrainTable.{TrainTable}
use Rattle.rl_tables.specs.declared.table.Tables.{Tables}
use Rattle.rl_tables.specs.Kept.{line_kind, line_segment}
use Rattle.rl_tables.specs.Starts.{starter_of}
use Rattle.rl_drafts.specs.Examples.{seg, switch_box}
use Rattle.rl_tables.specs.Examples.{arm}
use Rattle.rl_protocol.specs.Line.{Line, same_number}

-- segment k of the route of a train: its first segment, and then where each step goes
abbrev pub segment_of_route : TrainTable → ℕ → Option ℕ
segment_of_route x zero = Some x.first.0
segment_of_route x (suc k) = option_map (λ (row : StepRow). row.s2.0) (slice_get x.rows k)

abbrev pub route_of : Tables → (t k : ℕ) → Option ℕ
route_of tables t k = option_and_then (λ (x : TrainTable). segment_of_route x k) (slice_get tables.trains t)

-- the row of step k of train t
abbrev pub row_at : Tables → (t k : ℕ) → Option StepRow
row_at tables t k = option_and_then (λ (x : TrainTable). slice_get x.rows k) (slice_get tables.trains t)

-- what stands for a row that isn't there, which doesn't look ahead
abbrev pub no_row : StepRow
no_row =
    record {
      s = seg 0;
      s2 = seg 0;
      b = switch_box 0;
      x = arm 0;
      y = arm 0;
      c = switch_box 0;
      c_arm = arm 0;
      a = switch_box 0;
      a_arm = arm 0;
      next = None;
    }

abbrev pub line_of : Tables → Line
line_of tables =
    record {
      kind = line_kind tables;
      side = λ b. option_map_or (λ (x : BoxTable). x.side) (slice_get tables.boxes b) Left;
      has_arm = λ b x. is_some (line_segment tables b x);
      segment = λ b x. seg (unwrap_or (line_segment tables b x) 0);
      first_holder = λ b x. option_and_then (starter_of tables) (line_segment tables b x);
      steps = λ t. option_map_or (λ (x : TrainTable). length x.rows) (slice_get tables.trains t) 0;
      row = λ t k. unwrap_or (row_at tables t k) no_row;
      ends = λ t k b x. same_number (line_segment tables b x) (route_of tables t k);
    }
