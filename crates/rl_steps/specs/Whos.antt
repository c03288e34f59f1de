-- Who a node is: one of the four kinds, with a well-formed mind of that kind.
use Rattle.std.specs.Prelude.{◌≡◌, ℕ, Some}
use Rattle.rl_base.specs.declared.layout.NodeKind.{NodeKind}
use Rattle.rl_base.specs.declared.layout.NodeKind.TheVariants as nodes
use Rattle.rl_tables.specs.declared.table.Tables.{Tables}
use Rattle.rl_tables.specs.Starts.{layout_of}
use Rattle.rl_steps.specs.declared.mind.Mind.{Mind}
use Rattle.rl_steps.specs.declared.mind.Mind.TheVariants as minds
use Rattle.rl_steps.specs.Numbers.{node_at}
use Rattle.rl_steps.specs.Sound.{IsMindOf}
use Rattle.rl_steps.specs.declared.who.Who.{Who}
use Rattle.rl_steps.specs.declared.who.Who.TheVariants.{Train, Track, Box, Machine}

-- node n is this node, and what it has in mind is this
pub record IsNode (tables : Tables) (n : ℕ) (mind : Mind) (node : NodeKind) (own : Mind) : Type 0 where
  pub at : node_at (layout_of tables) n ≡ Some node
  pub mind_is : mind ≡ own
  pub formed : IsMindOf tables node own

abbrev pub IsWho : Tables → (n : ℕ) → Mind → Who → Type 0
IsWho tables n mind (Train t m) = IsNode tables n mind (nodes.Train t) (minds.Train m.now)
IsWho tables n mind (Track t m) = IsNode tables n mind (nodes.Track t) (minds.Track m.now)
IsWho tables n mind (Box b m) = IsNode tables n mind (nodes.Box b) (minds.Box m.now)
IsWho tables n mind (Machine b m) = IsNode tables n mind (nodes.Machine b) (minds.Machine m.now)
