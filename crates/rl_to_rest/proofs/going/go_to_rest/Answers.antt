use Rattle.rl_to_rest.proofs.Rounds.{went_round}
use Rattle.rl_to_rest.proofs.going.go_to_rest.Goals as goal

pub loop-preserved : goal.loop-preserved
loop-preserved g c = (
  tt,
  tt,
  went_round c.args.nodes.now c.loop.nodes c.as_mut_slice.result.now c.go_round.new.nodes c.loop.invariant.2 c.as_mut_slice.ensures.value
      c.go_round.ensures.kept,
)

pub returns-in_err-go_round-clause-kept : goal.returns-in_err-go_round-clause-kept
returns-in_err-go_round-clause-kept g c =
    went_round c.args.nodes.now c.loop.nodes c.as_mut_slice.result.now c.go_round.new.nodes c.loop.invariant.2 c.as_mut_slice.ensures.value
    c.go_round.ensures.kept
