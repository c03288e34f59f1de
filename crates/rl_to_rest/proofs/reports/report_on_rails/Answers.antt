use Rattle.std.proofs.Common.{◌≡◌, ℕ, List, IfOk, sym, ◌∙◌, subst}
use Rattle.std.specs.Prelude.{reverse}
use Rattle.rl_base.specs.Tries.{AreFewTries}
use Rattle.rl_record.specs.declared.event.Event.{Event}
use Rattle.rl_rule.specs.Seats.{rails_line, rails_tries}
use Rattle.rl_safety.specs.Reports.{report_of}
use Rattle.rl_tables.specs.declared.table.Tables.{Tables}
use Rattle.rl_tables.specs.Kept.{IsLine}
use Rattle.rl_to_rest.specs.ToRest.{IsReportToRest}
use Rattle.rl_to_rest.proofs.RailsRun.{minds_after, to_rest_on}
use Rattle.rl_to_rest.proofs.reports.report_on_rails.Goals as goal

pub report_of_events-requires-clause-minds : goal.report_of_events-requires-clause-minds
report_of_events-requires-clause-minds g c =
    let rails = c.all_seats.new.rails in
    let line : rails_line rails ≡ c.args.line.now = c.all_seats.ensures.rails.line ∙ c.in_ok-rails.ensures.line in
    let tries : rails_tries rails ≡ c.args.tries = c.all_seats.ensures.rails.tries ∙ c.in_ok-rails.ensures.tries in
    rw (c.as_slice.ensures, c.as_slice-2.ensures)
    (minds_after rails c.args.line.now c.args.tries c.in_ok-done.done.events c.in_ok-done.done.minds line tries c.in_ok-done.ensures.last_minds)

pub returns : goal.returns
returns g c =
    let rails = c.all_seats.new.rails in
    let line : rails_line rails ≡ c.args.line.now = c.all_seats.ensures.rails.line ∙ c.in_ok-rails.ensures.line in
    let tries : rails_tries rails ≡ c.args.tries = c.all_seats.ensures.rails.tries ∙ c.in_ok-rails.ensures.tries in
    let r = c.report_of_events.result in
    let done = c.in_ok-done.done in
    let fact = c.in_ok-done.ensures in
    let Lines : Tables → Type 0 = λ t. IsLine t in
    let Few : ℕ → Type 0 = AreFewTries in
    let Told : Tables → ℕ → List Event → Type 0 = λ t k events. IfOk r (λ report. report ≡ report_of t k (reverse events)) in
    let Rest : Tables → ℕ → Type 0 = λ t k. IfOk r (IsReportToRest t k) in
    let told : Told c.args.line.now c.args.tries c.as_slice.result.now = c.report_of_events.ensures in
    let told_of : Told (rails_line rails) (rails_tries rails) done.events =
    subst (λ (t : Tables). Told t (rails_tries rails) done.events) (sym line)
    (subst (λ (k : ℕ). Told c.args.line.now k done.events) (sym tries)
    (subst (λ (l : List Event). Told c.args.line.now c.args.tries l) c.as_slice.ensures told)) in
    let rested : Rest (rails_line rails) (rails_tries rails) =
    to_rest_on rails c.in_ok-parts.parts done.records done.events done.minds r c.sound_runs.ensures
    (subst Lines (sym line) c.layout-layout.ensures.line) (subst Few (sym tries) c.requires.few_tries)
    (record { rest = c.in_ok-parts.ensures; minds_are = fact.minds; merge = fact.merge; run = fact.run; last = fact.last_minds; few = fact.few })
    told_of in
    subst (λ (k : ℕ). Rest c.args.line.now k) tries (subst (λ (t : Tables). Rest t (rails_tries rails)) line rested)
