use Rattle.std.proofs.Common.{refl}
use Rattle.rl_domain.proofs.Lookups.{below_four}
use Rattle.rl_domain.proofs.first_states.first_state.Goals as goal

pub returns : goal.returns
returns c =
    record {
      points = rw c.points_of.ensures (rw c.start_side.ensures refl);
      unlocked = refl;
      holders = below_four _ c.holder_at_start.ensures c.holder_at_start-2.ensures c.holder_at_start-3.ensures c.holder_at_start-4.ensures;
    }
