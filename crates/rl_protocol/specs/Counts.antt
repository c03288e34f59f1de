-- Counts: the events of a node, and the attempts that trains have opened.
use Rattle.std.specs.Prelude.{◌≡◌, ◌≤◌, ℕ, zero, suc, ◌+◌, ◌-◌, ◌==◌, Bool, false, List, count_by}
use Rattle.rl_base.specs.declared.layout.NodeKind.{NodeKind}
use Rattle.rl_base.specs.declared.layout.NodeKind.TheVariants.{Train, Track, Box, Machine}
use Rattle.rl_protocol.specs.Line.{Line}
use Rattle.rl_protocol.specs.State.{State}
use Rattle.rl_protocol.specs.Steps.{Step}
use Rattle.rl_protocol.specs.Nodes.{node_of}

-- only trains below this number have steps to make
abbrev pub HasTrains : Line → ℕ → Type 0
HasTrains line trains = (t : ℕ) → trains ≤ t → line.steps t ≡ 0

abbrev pub same_node : NodeKind → NodeKind → Bool
same_node (Train t) (Train u) = t.0 == u.0
same_node (Track t) (Track u) = t.0 == u.0
same_node (Box b) (Box c) = b.0 == c.0
same_node (Machine b) (Machine c) = b.0 == c.0
same_node _ _ = false

-- how many steps the node has made
abbrev pub events_of : NodeKind → List Step → ℕ
events_of node steps = count_by (λ step. same_node (node_of step) node) steps

-- how many attempts the trains below this number have opened
abbrev pub attempts_opened : ℕ → State → ℕ → ℕ
attempts_opened tries s zero = 0
attempts_opened tries s (suc t) = (tries - (s.trains t).left) + attempts_opened tries s t
