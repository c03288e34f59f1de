use Rattle.std.proofs.Common.{◌≡◌, ◌++◌}
use Rattle.rl_nodes.specs.Laying.{AreLaid}
use Rattle.rl_nodes.proofs.laying.laid.Given as goal

abbrev pub invariant-loop-seat : goal.invariant-loop-seat
invariant-loop-seat l =
    record {
      can : (goal.iterator-loop-seat).can_next l.seat-iterator;
      finite : (goal.iterator-loop-seat).is_finite l.seat-iterator;
      all : l.yielded ++ l.seat-iterator.rest.items ≡ l.fn.seats;
      laid : AreLaid l.rails l.events l.yielded l.nodes;
    }
