-- The mind that a node of a line may have.
use Rattle.std.specs.Prelude.{◌≡◌, ℕ, Some}
use Rattle.rl_base.specs.declared.layout.NodeKind.{NodeKind}
use Rattle.rl_tables.specs.declared.table.Tables.{Tables}
use Rattle.rl_tables.specs.Starts.{layout_of}
use Rattle.rl_steps.specs.declared.mind.Mind.{Mind}
use Rattle.rl_steps.specs.Numbers.{node_at}
use Rattle.rl_steps.specs.Sound.{IsMindOf}

-- the mind is one of the kind of node n, and well formed
abbrev pub HasMind : Tables → ℕ → Mind → Type 0
HasMind tables n mind = (node : NodeKind) → node_at (layout_of tables) n ≡ Some node → IsMindOf tables node mind
