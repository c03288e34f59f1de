use Rattle.std.proofs.Common.{◌≡◌, ◌++◌, reverse, map}
use Rattle.rl_rule.specs.Seats.{walk_of, handed, taken, IsSameRails}
use Rattle.rl_rule.specs.Views.{kept_of}
use Rattle.rl_nodes.specs.Finished.{records_of, minds_of}
use Rattle.rl_nodes.proofs.finishing.take_all_in.Given as goal

abbrev pub invariant-loop-part : goal.invariant-loop-part
invariant-loop-part l =
    record {
      can : (goal.iterator-loop-part).can_next l.part-iterator;
      finite : (goal.iterator-loop-part).is_finite l.part-iterator;
      rails : IsSameRails l.initial.rails l.rails;
      handed_same : handed l.rails ≡ handed l.initial.rails;
      taken_in : taken l.rails ≡ reverse (map (λ part. kept_of (walk_of part.seat)) l.yielded) ++ taken l.initial.rails;
      records : l.left.records ≡ records_of l.yielded;
      minds : l.left.minds ≡ minds_of l.yielded;
    }
