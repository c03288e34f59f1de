use Rattle.std.proofs.Common.{◌≡◌, [], ◌∷◌}
use Rattle.rl_make.specs.Ring.{each, segments_of, boxes_of, train_of}
use Rattle.rl_make.proofs.ring.ring_of.Given as goal

-- the stations below i are there
abbrev pub invariant-loop-i : goal.invariant-loop-i
invariant-loop-i l = record {
  segments : l.segments ≡ each segments_of l.i;
  boxes : l.boxes ≡ each (boxes_of l.n) l.i;
  trains : l.trains ≡ each (λ i. train_of l.n i ∷ []) l.i;
}
