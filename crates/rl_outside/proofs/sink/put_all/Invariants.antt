use Rattle.std.proofs.Common.{length, ◌-◌, ◌≡◌}
use Rattle.rl_outside.proofs.Growing.{HasPut}
use Rattle.rl_outside.proofs.sink.put_all.Given as goal

abbrev pub invariant-loop-done : goal.invariant-loop-done
invariant-loop-done g l =
    HasPut (g.K.Sink.written l.initial.out) (g.K.Sink.written l.out)
    (g.K.Sink.faults l.initial.out) (g.K.Sink.faults l.out) l.done l.text
    × (l.done ≡ 0 → l.out ≡ l.initial.out)

abbrev pub decreases-loop-done : goal.decreases-loop-done
decreases-loop-done g l = length l.text - l.done
