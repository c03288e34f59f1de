use Rattle.std.proofs.Common.{◌≤◌, ℕ, List, length, Result, Ok, Err}
use Rattle.rl_model.specs.declared.network.NetworkPlan.{NetworkPlan}
use Rattle.rl_model.specs.declared.report.Report.{Report}
use Rattle.rl_model.specs.Network.{IsNetwork}
use Rattle.rl_report.specs.declared.refusal.ReportRefusal.{ReportRefusal}
use Rattle.rl_report.specs.declared.refusal.ReportRefusal.TheVariants.{Line, Long, NoMemory}
use Rattle.rl_report.specs.Grammar.{IsTextOf, most_moves}
use Rattle.rl_report.specs.Answers.{ReadsAs, ReadsBack}
use Rattle.rl_report.proofs.OneReading.{one_report, no_fault}
use Rattle.rl_report.proofs.Short.{report_not_long}
use Rattle.rl_report.proofs.read.read_report.Goals as goal

reads_back : (net : NetworkPlan) (text : List ℕ) (report : Report) (result : Result Report ReportRefusal) → IsNetwork net → ReadsAs net text result
    → IsTextOf net report text → length report.moves ≤ most_moves → ReadsBack report result
reads_back net text report (Ok read) network reads is few = one_report net text read report network reads.1 is
reads_back net text report (Err (Line n)) network reads is few = no_fault net text report n is reads.1
reads_back net text report (Err Long) network reads is few = report_not_long net text report network is few reads
reads_back net text report (Err NoMemory) network reads is few = tt

pub returns-clause-complete : goal.returns-clause-complete
returns-clause-complete c = λ report is few.
    reads_back c.args.net.now c.args.text.now report c.read_text.result c.accepted.ensures c.read_text.ensures is few
