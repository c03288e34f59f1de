use denote.Param.Send.{sendable}
use Rattle.rl_to_rest.proofs.Crossing.{node_send}
use Rattle.rl_to_rest.proofs.Granting.{all_turned_from}
use Rattle.rl_to_rest.proofs.Rounds.{still_after, still_topped}
use Rattle.rl_to_rest.proofs.going.go_round.Goals as goal

pub rounds-requires-send-T : goal.rounds-requires-send-T
rounds-requires-send-T g c κs within = search (sendable, node_send) depth 60 fits 20000

pub returns-clause-turned : goal.returns-clause-turned
returns-clause-turned g c =
    record {
      turns = c.in_ok-round.round;
      granted = c.in_ok-round.ensures.granted;
      turned = all_turned_from c.in_ok-round.round c.args.nodes.now c.granted.new.nodes c.rounds.new.nodes c.granted.auto.nodes c.granted.ensures.kept
          c.rounds.ensures;
    }

pub returns-clause-kept : goal.returns-clause-kept
returns-clause-kept g c =
    still_after c.in_ok-round.round c.args.nodes.now c.granted.new.nodes c.rounds.new.nodes c.topped_up_nodes.ensures c.kept_nodes.ensures
    c.granted.auto.nodes c.granted.ensures.kept c.rounds.auto.nodes c.rounds.ensures

pub returns-in_err-round-clause-kept : goal.returns-in_err-round-clause-kept
returns-in_err-round-clause-kept g c =
    still_topped c.args.nodes.now c.granted.new.nodes c.topped_up_nodes.ensures c.granted.auto.nodes c.granted.ensures.kept
