use Rattle.std.proofs.Common.{◌∙◌}
use Rattle.rl_core.proofs.Counting.{none_counted}
use Rattle.rl_core.proofs.reports.no_counts.Goals as goal

pub returns : goal.returns
returns c = c.in_ok-vec.ensures.items_if_clones_equal (λ x same. same) ∙ none_counted 0 c.args.trains
