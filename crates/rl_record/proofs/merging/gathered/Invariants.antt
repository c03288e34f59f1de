use Rattle.std.proofs.Common.{◌≡◌, take}
use Rattle.rl_record.specs.Records.{all_events}
use Rattle.rl_record.proofs.merging.gathered.Given as goal

abbrev pub invariant-loop-record : goal.invariant-loop-record
invariant-loop-record l = l.events.items ≡ all_events (take l.record-index l.record-items)
