-- The move of an event on the railway: what it needs, and what it makes of the world.
use Rattle.std.specs.Prelude.{◌≡◌, Option, Some, None}
use Rattle.rl_model.specs.declared.moves.Move.{Move}
use Rattle.rl_model.specs.declared.network.NetworkPlan.{NetworkPlan}
use Rattle.rl_model.specs.Moves.{guards, AllHold, after, IsMoveOf}
use Rattle.rl_model.specs.World.{World}
use Rattle.rl_record.specs.declared.event.Event.{Event}
use Rattle.rl_tables.specs.declared.table.Tables.{Tables}
use Rattle.rl_steps.specs.State.{CoreState}
use Rattle.rl_safety.specs.Moves.{move_of}
use Rattle.rl_safety.specs.World.{world_of_core}

-- the move names what the network has, every guard of it holds in the world before, and the world then is that after it
pub record IsGuardedMove (net : NetworkPlan) (before then : World) (m : Move) : Type 0 where
  pub named : IsMoveOf net m
  pub guarded : AllHold (guards net before m)
  pub moved : then ≡ after before m

-- without a move the world stays
abbrev pub IsMoved : NetworkPlan → World → World → Option Move → Type 0
IsMoved net before then (Some m) = IsGuardedMove net before then m
IsMoved net before then None = then ≡ before

-- the same of an event between two states of a core, by what their words say
abbrev pub IsGuarded : NetworkPlan → Tables → CoreState → CoreState → Event → Type 0
IsGuarded net tables before then e =
    IsMoved net (world_of_core net tables before) (world_of_core net tables then) (move_of tables e)
