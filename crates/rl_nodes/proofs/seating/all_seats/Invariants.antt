use Rattle.std.proofs.Common.{◌≡◌, []}
use Rattle.rl_rule.specs.Seats.{handed, taken, IsSameRails}
use Rattle.rl_nodes.specs.Laying.{AreFirstSeats}
use Rattle.rl_nodes.proofs.seating.all_seats.Given as goal

abbrev pub invariant-loop-n : goal.invariant-loop-n
invariant-loop-n l =
    record {
      same : IsSameRails l.initial.rails l.rails;
      next : handed l.rails ≡ l.n;
      none_taken : taken l.rails ≡ [];
      seats_are : AreFirstSeats l.initial.rails l.n l.seats;
    }
