use Rattle.rl_merge.proofs.Chained.{chained_run, chained_minds}
use Rattle.rl_merge.proofs.Merging.{chained_merge}
use Rattle.rl_merge.proofs.Replayed.{chained_all_words, chained_clocks}
use Rattle.rl_merge.proofs.laws.chained_runs.Goals as goal

pub returns : goal.returns
returns c =
    record {
      merge = chained_merge;
      run = chained_run;
      words = chained_all_words;
      minds = chained_minds;
      clocks = chained_clocks;
    }
