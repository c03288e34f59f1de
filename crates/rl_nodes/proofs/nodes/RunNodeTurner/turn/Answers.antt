use Rattle.rl_nodes.proofs.Turning.{turn_number, turn_home, turn_counts, turn_ready}
use Rattle.rl_nodes.proofs.nodes.RunNodeTurner.turn.Goals as goal

pub returns : goal.returns
returns c =
    let old = c.args.self.now in
    record {
      number = turn_number old _ _ c.turn.ensures;
      home = turn_home old _ _ c.turn.ensures;
      turns = turn_counts old _ _ c.turn.ensures;
      ready = turn_ready old _ _ c.turn.ensures;
    }
