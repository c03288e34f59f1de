-- What was done on rails until every node rested is a run to rest.
use Rattle.std.proofs.Common.{◌≡◌, ℕ, ◌≤◌, true, List, length, slice_get, Some, Result, IfOk, refl, sym, ap, ◌∙◌, subst, arith}
use Rattle.std.specs.Prelude.{reverse, option_map}
use Rattle.std.proofs.lemmas.List.{length-map, length-reverse}
use Rattle.std.proofs.lemmas.Option.{slice_get-map}
use Rattle.rl_base.specs.Numbers.{IsU32}
use Rattle.rl_base.specs.Tries.{AreFewTries}
use Rattle.rl_base.specs.Layout.{node_count}
use Rattle.rl_core.specs.Reports.{AreMindsAfter}
use Rattle.rl_model.specs.declared.report.Report.{Report}
use Rattle.rl_nodes.specs.declared.parts.Part.{Part}
use Rattle.rl_nodes.specs.Finished.{minds_of, IsRunOf, end_state, AreMinds, attempts_in, AreFew}
use Rattle.rl_nodes.specs.Nodes.{is_at_rest}
use Rattle.rl_record.specs.declared.event.Event.{Event}
use Rattle.rl_record.specs.Records.{Record, IsMergeOf}
use Rattle.rl_rule.specs.declared.rails.Rails.{Rails}
use Rattle.rl_rule.specs.Seats.{rails_line, rails_tries}
use Rattle.rl_steps.specs.declared.mind.Mind.{Mind}
use Rattle.rl_steps.specs.Run.{state}
use Rattle.rl_steps.proofs.Options.{from_map}
use Rattle.rl_safety.specs.Reports.{report_of}
use Rattle.rl_tables.specs.declared.table.Tables.{Tables}
use Rattle.rl_tables.specs.Kept.{IsLine}
use Rattle.rl_tables.specs.Starts.{layout_of}
use Rattle.rl_to_rest.specs.Going.{ArePartsAtRest}
use Rattle.rl_to_rest.specs.ToRest.{IsReportToRest}
use Rattle.rl_to_rest.proofs.EndRests.{MindsRest, all_rest_after}
use Rattle.rl_to_rest.proofs.Reported.{reported}
use Rattle.rl_to_rest.proofs.RunEvents.{AreSound}

pub minds_after : (rails : Rails) (tables : Tables) (tries : ℕ) (events : List Event) (minds : List Mind) → rails_line rails ≡ tables
    → rails_tries rails ≡ tries
    → AreMinds (end_state rails events).minds minds → AreMindsAfter tables tries (reverse events) minds
minds_after rails tables tries events minds line tries_is are n mind at =
    sym (are n mind at ∙ ap (λ (t : Tables). (state t (rails_tries rails) (reverse events)).minds n) line
    ∙ ap (λ (k : ℕ). (state tables k (reverse events)).minds n) tries_is)

minds_rest : (rails : Rails) (parts : List Part) (minds : List Mind) → ArePartsAtRest rails parts → minds ≡ minds_of parts
    → MindsRest (rails_line rails) minds
minds_rest rails parts minds rest are n mind at =
    let there : option_map (λ (p : Part). p.mind) (slice_get parts n) ≡ Some mind =
    sym (slice_get-map (λ (p : Part). p.mind) parts n) ∙ ap (λ (l : List Mind). slice_get l n) (sym are) ∙ at in
    let part = from_map (λ (p : Part). p.mind) (slice_get parts n) mind there in
    subst (λ (m : Mind). is_at_rest (rails_line rails) n m ≡ true) part.2 (rest.rest n part.0 part.1)

many_minds : (rails : Rails) (parts : List Part) (minds : List Mind) → ArePartsAtRest rails parts → minds ≡ minds_of parts
    → length (rails_line rails).trains ≤ length minds
many_minds rails parts minds rest are =
    let long : length minds ≡ length parts = ap (λ (l : List Mind). length l) are ∙ length-map parts (λ (p : Part). p.mind) in
    let all : length parts ≡ node_count (layout_of (rails_line rails)) = rest.all.all_here ∙ rest.all.all_handed in
    omega arith

-- what the nodes did, and with which parts they were left
pub record WasRun (rails : Rails) (parts : List Part) (records : List Record) (events : List Event) (minds : List Mind) : Type 0 where
  pub rest : ArePartsAtRest rails parts
  pub minds_are : minds ≡ minds_of parts
  pub merge : IsMergeOf records events
  pub run : IsRunOf rails events
  pub last : AreMinds (end_state rails events).minds minds
  pub few : AreFew (attempts_in rails events) records events

pub to_rest_on : {E : Type 0} (rails : Rails) (parts : List Part) (records : List Record) (events : List Event) (minds : List Mind) (r : Result Report E)
    → AreSound → IsLine (rails_line rails) → AreFewTries (rails_tries rails) → WasRun rails parts records events minds
    → IfOk r (λ report. report ≡ report_of (rails_line rails) (rails_tries rails) (reverse events))
    → IfOk r (IsReportToRest (rails_line rails) (rails_tries rails))
to_rest_on rails parts records events minds r sound line tries was is =
    let tables = rails_line rails in
    let log = reverse events in
    let all = was.few.all in
    let fits = was.few.fits in
    let short : IsU32 (length log) = omega (arith, length-reverse events) in
    let formed = (sound tables (rails_tries rails) log line tries short was.run).minds in
    let after = minds_after rails tables (rails_tries rails) events minds refl refl was.last in
    reported tables (rails_tries rails) log r was.run was.merge.falls
    (all_rest_after tables (rails_tries rails) log minds after (many_minds rails parts minds was.rest was.minds_are) formed
    (minds_rest rails parts minds was.rest was.minds_are))
    is
