use Rattle.rl_nodes.specs.Nodes.{AreNodesOf}
use Rattle.rl_nodes.specs.Laying.{AreLaid, AreStartNodes}
use Rattle.rl_nodes.proofs.Rows.{start_nodes, all_nodes, ok_on}
use Rattle.rl_nodes.proofs.laying.lay_nodes.Goals as goal

pub returns-clause-nodes : goal.returns-clause-nodes
returns-clause-nodes c =
    let rails = c.args.rails.now in
    ok_on (AreLaid rails c.args.events c.args.seats) (AreNodesOf rails c.args.events) c.laid.result
    (λ nodes is. all_nodes rails c.args.events c.args.seats nodes c.requires.seats is) c.laid.ensures

pub returns-clause-start : goal.returns-clause-start
returns-clause-start c =
    let rails = c.args.rails.now in
    ok_on (AreLaid rails c.args.events c.args.seats) (AreStartNodes rails c.args.events) c.laid.result
    (λ nodes is. start_nodes rails c.args.events c.args.seats nodes c.requires.seats is) c.laid.ensures
