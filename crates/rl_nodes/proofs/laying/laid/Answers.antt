use Rattle.std.proofs.Common.{List, [], ◌∷◌, ◌++◌, append_assoc, ap, ◌∙◌, sym}
use Rattle.rl_rule.specs.declared.seats.NodeSeat.{NodeSeat}
use Rattle.rl_nodes.proofs.Rows.{none_laid, laid_more, next_seat}
use Rattle.rl_nodes.proofs.laying.laid.Goals as goal

pub loop-seat-init : goal.loop-seat-init
loop-seat-init c =
    record {
      can = tt;
      finite = tt;
      all = c.into_iter-seat-iterator.ensures.into_iter_gives.0 ∙ c.into_vec-seat-items.ensures;
      laid = rw c.new-nodes.ensures (none_laid c.args.rails.now c.args.events);
    }

pub lay_node-requires-clause-there : goal.lay_node-requires-clause-there
lay_node-requires-clause-there c =
    let all = ap (λ (xs : List NodeSeat). c.loop-seat.yielded ++ xs) (sym c.in-Some.ensures.steps.0) ∙ c.loop-seat.invariant.all in
    let next = next_seat c.args.rails.now c.args.seats c.loop-seat.yielded c.next.new.self.rest.items c.in-Some.seat c.requires.seats all in
    rw c.requires.line next.there

pub lay_node-requires-clause-seat : goal.lay_node-requires-clause-seat
lay_node-requires-clause-seat c =
    let all = ap (λ (xs : List NodeSeat). c.loop-seat.yielded ++ xs) (sym c.in-Some.ensures.steps.0) ∙ c.loop-seat.invariant.all in
    (next_seat c.args.rails.now c.args.seats c.loop-seat.yielded c.next.new.self.rest.items c.in-Some.seat c.requires.seats all).starts

pub loop-seat-preserved : goal.loop-seat-preserved
loop-seat-preserved c =
    record {
      can = tt;
      finite = tt;
      all =
          append_assoc c.loop-seat.yielded (c.in-Some.seat ∷ []) c.next.new.self.rest.items
          ∙ ap (λ (xs : List NodeSeat). c.loop-seat.yielded ++ xs) (sym c.in-Some.ensures.steps.0)
          ∙ c.loop-seat.invariant.all;
      laid = rw c.in_ok-push.ensures.ok
          (laid_more c.args.rails.now c.args.events c.loop-seat.yielded c.loop-seat.nodes c.in-Some.seat c.lay_node.result c.loop-seat.invariant.laid
          c.lay_node.ensures);
    }
