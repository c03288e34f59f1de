-- The fault of a text is its first refusal.
use Rattle.std.proofs.Common.{◌≡◌, ℕ, List, Ok, Err, refl}
use Rattle.rl_base.specs.declared.draft.Draft.{Draft}
use Rattle.rl_syntax.specs.declared.refusal.SyntaxRefusal.{SyntaxRefusal}
use Rattle.rl_syntax.specs.declared.refusal.SyntaxRefusal.TheVariants as syntax
use Rattle.rl_syntax.specs.Answer.{UnlessMemory}
use Rattle.rl_syntax.specs.Meaning.{Means}
use Rattle.rl_syntax.specs.SyntaxRefusals as reading
use Rattle.rl_model.specs.declared.network.NetworkPlan.{NetworkPlan}
use Rattle.rl_net.specs.declared.refusal.NetRefusal.{NetRefusal}
use Rattle.rl_net.specs.declared.refusal.NetRefusal.TheVariants as rule
use Rattle.rl_net.specs.NetRefusals as network
use Rattle.rl_net.specs.NetRefusals.{IsRefusal}
use Rattle.rl_report.specs.declared.refusal.ReportRefusal.{ReportRefusal}
use Rattle.rl_report.specs.declared.refusal.ReportRefusal.TheVariants as report
use Rattle.rl_report.specs.Answers.{IsCause}
use Rattle.rl_report.specs.Refusals as reports
use Rattle.relis.specs.Commands.{IsReportRefusal, faulty, long}
use Rattle.relis.specs.Networks.{IsRefusedAs, unread, broken}

-- a refusal of the reading refuses the text, unless memory ran out
pub by_reading : (text : List ℕ) (r : SyntaxRefusal) → (r ≡ syntax.NoMemory → ⊥) → UnlessMemory (Err r) (Means text (Err r)) →
    IsRefusedAs text (reading.refusal_number r) (reading.refusal_place r)
by_reading text syntax.NoMemory some means = absurd (some refl)
by_reading text r some means = unread r means

-- the first rule that the draft of a text breaks refuses the text
pub by_rule : (text : List ℕ) (d : Draft) (r : NetRefusal) → (r ≡ rule.NoMemory → ⊥) → Means text (Ok d) →
    IsRefusal d r → IsRefusedAs text (network.refusal_number r) (network.refusal_place r)
by_rule text d rule.NoMemory some says first = absurd (some refl)
by_rule text d r some says first = broken d (network.refusal_number r) (network.refusal_place r) says first

-- a refusal of the reading of a report refuses it, unless memory ran out
pub by_report : (net : NetworkPlan) (text : List ℕ) (r : ReportRefusal) → (r ≡ report.NoMemory → ⊥) → IsCause net text r →
    IsReportRefusal net text (reports.refusal_number r) (reports.refusal_place r)
by_report net text (report.Line n) some cause = faulty n cause.0 cause.1
by_report net text report.Long some cause = long cause
by_report net text report.NoMemory some cause = absurd (some refl)
