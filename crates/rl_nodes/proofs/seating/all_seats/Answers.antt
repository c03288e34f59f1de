use Rattle.std.proofs.Common.{ℕ, ◌+◌, ◌∙◌, ap}
use Rattle.rl_nodes.specs.Laying.{IsStartSeat}
use Rattle.rl_nodes.proofs.Rows.{seats_more}
use Rattle.rl_nodes.proofs.seating.all_seats.Goals as goal

pub loop-n-preserved : goal.loop-n-preserved
loop-n-preserved c =
    let made = c.seat.ensures in
    let old = c.loop-n.invariant in
    let starts : IsStartSeat c.loop-n.rails c.loop-n.n c.seat.result = record { own = made.own; line = made.line; walk = made.walk } in
    record {
      same = record { id = made.rails.id ∙ old.same.id; line = made.rails.line ∙ old.same.line; tries = made.rails.tries ∙ old.same.tries };
      next = made.handed ∙ ap (λ (k : ℕ). k + 1) old.next;
      none_taken = made.taken ∙ old.none_taken;
      seats_are = rw c.in_ok-push.ensures.ok (seats_more c.args.rails.now c.loop-n.rails c.loop-n.n c.loop-n.seats c.seat.result old.same old.seats_are starts);
    }
