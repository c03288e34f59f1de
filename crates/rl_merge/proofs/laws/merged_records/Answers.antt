use Rattle.std.proofs.Common.{reverse}
use Rattle.rl_merge.proofs.Records.{by_node, merge_of_records}
use Rattle.rl_merge.proofs.laws.merged_records.Goals as goal

pub returns : goal.returns
returns c =
    record {
      histories = λ tables tries log records run are. c.records_by_node.ensures records (by_node tables tries log records run are);
      run = λ tables tries log records events line few room run are merge.
          let order = by_node tables tries log records run are in
          c.merged_runs.ensures.run tables tries log (reverse events) line few room run
          (merge_of_records c.histories_of_records.ensures log records events order are merge);
    }
