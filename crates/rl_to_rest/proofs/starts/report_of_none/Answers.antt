use Rattle.std.proofs.Common.{[]}
use Rattle.rl_to_rest.proofs.AtRest.{all_rest_at_start}
use Rattle.rl_to_rest.proofs.Reported.{reported}
use Rattle.rl_to_rest.proofs.starts.report_of_none.Goals as goal

pub returns : goal.returns
returns c =
    reported c.args.line.now c.args.tries [] c.report_of_events.result tt tt (all_rest_at_start c.args.line.now c.args.tries c.requires.rest)
    (rw c.as_slice.ensures at c.report_of_events.ensures)
