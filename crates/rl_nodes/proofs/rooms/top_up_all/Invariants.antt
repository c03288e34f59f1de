use Rattle.std.proofs.Common.{◌≡◌, ℕ, ◌<◌, ◌≤◌, slice_index_or}
use Rattle.rl_nodes.specs.Nodes.{Node, IsReady, IsToppedUp}
use Rattle.rl_nodes.proofs.rooms.top_up_all.Given as goal

abbrev pub invariant-loop-node : goal.invariant-loop-node
invariant-loop-node l =
    record {
      ready : (i : ℕ) (d : Node) → i < l.node-index → IsReady l.n (slice_index_or l.nodes i d);
      topped : (i : ℕ) (d : Node) → IsToppedUp (slice_index_or l.initial.nodes i d) (slice_index_or l.nodes i d);
      later : (i : ℕ) (d : Node) → l.node-index ≤ i → slice_index_or l.nodes i d ≡ slice_index_or l.initial.nodes i d;
    }
