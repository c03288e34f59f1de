use Rattle.rl_nodes.proofs.Rows.{parts_more}
use Rattle.rl_nodes.proofs.parting.parts_of.Goals as goal

pub loop-node-preserved : goal.loop-node-preserved
loop-node-preserved c =
    record {
      can = tt;
      finite = tt;
      parts_are = rw c.in_ok-push.ensures.ok
          (parts_more c.loop-node.yielded c.loop-node.parts c.in-Some.node c.part_of.result c.loop-node.invariant.parts_are c.part_of.ensures);
    }
