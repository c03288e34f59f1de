use Rattle.std.proofs.Common.{Ok, subst, arith}
use Rattle.rl_schedule.specs.Meaning.{Means}
use Rattle.rl_schedule.specs.Readings.{nodes_of}
use Rattle.rl_schedule.proofs.Meanings.{means}
use Rattle.rl_schedule.proofs.Pieces.{length_turns}
use Rattle.rl_schedule.proofs.Reporting.{few_in_report}
use Rattle.rl_schedule.proofs.laws.few_moves.Goals as goal

pub returns-clause-report : goal.returns-clause-report
returns-clause-report c = few_in_report

pub returns-clause-text : goal.returns-clause-text
returns-clause-text c = λ net text items network is.
    let said : Means net text (Ok items) = subst (Means net text) is (means net network text) in
    omega (arith, length_turns (nodes_of net) items, said.1.few)
