-- Records that hold what the nodes did in a run.
use Rattle.std.specs.Prelude.{◌≡◌, ℕ, ◌≤◌, List, [], length, reverse, slice_get, Some}
use Rattle.rl_record.specs.declared.event.Event.{Event}
use Rattle.rl_record.specs.Merge.{history}
use Rattle.rl_record.specs.Records.{Record}

-- the record of node n stands at n and holds its history, oldest first. Nodes without a record made no event
pub record AreRecordsOf (log : List Event) (records : List Record) : Type 0 where
  pub each : (n : ℕ) (r : Record) → slice_get records n ≡ Some r → r.events ≡ reverse (history n log)
  pub others : (n : ℕ) → length records ≤ n → history n log ≡ []
