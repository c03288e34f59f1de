use Rattle.rl_nodes.specs.Parting.{ArePartsOf}
use Rattle.rl_nodes.proofs.parting.parts_of.Given as goal

abbrev pub invariant-loop-node : goal.invariant-loop-node
invariant-loop-node l =
    record {
      can : (goal.iterator-loop-node).can_next l.node-iterator;
      finite : (goal.iterator-loop-node).is_finite l.node-iterator;
      parts_are : ArePartsOf l.yielded l.parts;
    }
