use Rattle.rl_rule.proofs.Known.{MergeLaws}
use Rattle.rl_rule.proofs.Moments.{moment_at}
use Rattle.rl_rule.proofs.laws.moments_of_rule.Goals as goal

pub returns : goal.returns
returns c =
    let laws : MergeLaws = record {
      merge = c.chained_runs.ensures.merge;
      run = c.chained_runs.ensures.run;
      words = c.chained_runs.ensures.words;
      minds = c.chained_runs.ensures.minds;
      clocks = c.chained_runs.ensures.clocks;
    } in
    moment_at laws
