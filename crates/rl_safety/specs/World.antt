-- The world of a core: what its words and the routes say of trains, segments and boxes.
use Rattle.rl_model.specs.declared.network.NetworkPlan.{NetworkPlan}
use Rattle.rl_model.specs.World.{World}
use Rattle.rl_tables.specs.declared.table.Tables.{Tables}
use Rattle.rl_steps.specs.State.{CoreState}
use Rattle.rl_protocol.specs.Worlds.{world_at}
use Rattle.rl_safety.specs.Reading.{read}

-- the world of the state that is read; no mind shows in it
abbrev pub world_of_core : NetworkPlan → Tables → CoreState → World
world_of_core net tables c = world_at net (read tables 0 c)
