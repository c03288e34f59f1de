-- The parts of nodes that all rest.
use Rattle.std.proofs.Common.{◌≡◌, ℕ, ◌<◌, true, List, length, slice_get, slice_index_or, Some, Result, Ok, Err, IfOk, arith}
use Rattle.std.specs.Prelude.{All}
use Rattle.std.proofs.lemmas.Option.{slice_get_within, get_or_from_slice_get}
use Rattle.rl_protocol.proofs.Moved.{item_there}
use Rattle.rl_rule.specs.declared.rails.Rails.{Rails}
use Rattle.rl_rule.specs.Seats.{rails_line}
use Rattle.rl_nodes.specs.declared.parts.Part.{Part}
use Rattle.rl_nodes.specs.Nodes.{Node, AreNodesOf, rests, is_at_rest}
use Rattle.rl_nodes.specs.Parting.{ArePartsOf}
use Rattle.rl_nodes.specs.Parts.{AreParts}
use Rattle.rl_to_rest.specs.Going.{StillNodes, ArePartsAtRest}

-- what is proved of parts
abbrev pub PartsRest : Type 0
PartsRest =
    (rails : Rails) (limit i : ℕ) (nodes : List Node) (parts : List Part) (node : Node) (part : Part) → AreNodesOf rails limit nodes
    → ArePartsOf nodes parts → slice_get nodes i ≡ Some node → slice_get parts i ≡ Some part → rests node ≡ true
    → is_at_rest (rails_line rails) i part.mind ≡ true

pub parted : {E : Type 0} (rails : Rails) (limit : ℕ) (laid nodes : List Node) (r : Result (List Part) E) → PartsRest → AreNodesOf rails limit laid
    → StillNodes laid nodes → All (λ (node : Node). rests node ≡ true) nodes → IfOk r (ArePartsOf nodes)
    → ((rails : Rails) (limit : ℕ) → AreNodesOf rails limit nodes → IfOk r (AreParts rails)) → IfOk r (ArePartsAtRest rails)
parted rails limit laid nodes (Ok parts) law were still rest are all =
    let now : AreNodesOf rails limit nodes = still.nodes rails limit were in
    record {
      all = all rails limit now;
      rest = λ i part at.
          let within : i < length parts = slice_get_within parts i part at in
          let long = are.all_here in
          let node = item_there nodes i (omega arith) in
          let same : slice_index_or nodes i node.0 ≡ node.0 = get_or_from_slice_get nodes i node.0 node.0 node.1 in
          let rests_there : rests (slice_index_or nodes i node.0) ≡ true = rest i node.0 (omega arith) in
          law rails limit i nodes parts node.0 part now are node.1 at (rw same at rests_there);
    }
parted rails limit laid nodes (Err e) law were still rest are all = tt
