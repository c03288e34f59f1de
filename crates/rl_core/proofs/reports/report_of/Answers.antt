use Rattle.std.proofs.Common.{ap, ◌∙◌, length}
use Rattle.rl_core.specs.Reports.{outcomes_by}
use Rattle.rl_core.proofs.Fates.{report_is}
use Rattle.rl_core.proofs.reports.report_of.Goals as goal

pub returns : goal.returns
returns c = λ events run moves minds.
    let lent = c.as_slice.ensures in
    report_is c.args.line.now c.args.tries events c.args.moves c.args.minds.now c.in_ok-outcomes.outcomes c.requires.minds moves minds
    (c.in_ok-outcomes.ensures ∙ ap (λ ms. outcomes_by c.args.line.now c.args.tries ms c.args.minds.now (length c.args.line.now.trains)) lent)
