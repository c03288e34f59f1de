use Rattle.rl_rule.proofs.Known.{ChainLaws}
use Rattle.rl_rule.proofs.RuleHolds.{rule_holds}
use Rattle.rl_rule.proofs.laws.rule_of_rails.Goals as goal

pub returns : goal.returns
returns c =
    let laws : ChainLaws = record {
      chained = c.chains_of_runs.ensures.chained;
      left = c.chains_of_runs.ensures.left;
      clocks = c.chains_of_runs.ensures.clocks;
    } in
    λ tables tries s ruled. rule_holds tables tries s ruled laws c.sound_runs.ensures
