use Rattle.std.proofs.Common.{◌≡◌, ◌<◌, ◌-◌, ◌∷◌, ◌++◌}
use Rattle.rl_make.specs.Ring.{platform, legs}
use Rattle.rl_make.proofs.train.train_of.Given as goal

-- the route so far, and what is left of it from this station on, are the whole route
abbrev pub invariant-loop-leg : goal.invariant-loop-leg
invariant-loop-leg l = record {
  within : l.station < l.n;
  whole : l.route ++ legs l.n l.i (20 - l._leg) l.station ≡ platform l.i l.i ∷ legs l.n l.i 20 l.i;
}
