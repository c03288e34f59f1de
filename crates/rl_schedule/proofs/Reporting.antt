-- The report of a core that was driven from the start.
use Rattle.std.proofs.Common.{◌≡◌, ℕ, ◌+◌, ◌<◌, ◌≤◌, List, [], ◌∷◌, length, Option, Some, None, Result, Ok, Err, IfOk, sym, ap, ◌∙◌, subst, arith}
use Rattle.std.specs.Prelude.{fold, option_to_list}
use Rattle.std.proofs.lemmas.List.{length-append}
use Rattle.std.proofs.lemmas.Option.{get_or_from_slice_get}
use Rattle.rl_model.specs.declared.moves.Move.{Move}
use Rattle.rl_record.specs.declared.event.Event.{Event}
use Rattle.rl_tables.specs.declared.table.Tables.{Tables}
use Rattle.rl_steps.specs.State.{CoreState}
use Rattle.rl_steps.specs.Run.{IsRun, state}
use Rattle.rl_steps.specs.Turn.{Drive, start_drive, turn_of, driven}
use Rattle.rl_safety.specs.Moves.{move_of, moves_of}
use Rattle.rl_core.specs.Cores.{Core, LeadsTo, state_of}
use Rattle.rl_core.specs.Reports.{AreMindsAfter}
use Rattle.rl_schedule.specs.Driven.{IsDriven, schedule_report}
use Rattle.rl_base.specs.declared.limits.TheConstants.{MAX_MOVES}
use Rattle.rl_base.specs.Layout.{node_count}
use Rattle.rl_tables.specs.Starts.{layout_of}
use Rattle.rl_schedule.specs.declared.schedules.Item.{Item}
use Rattle.rl_schedule.specs.Turns.{IsScheduleFor, turns_of}
use Rattle.rl_schedule.proofs.Driving.{events_turned}
use Rattle.rl_schedule.proofs.Pieces.{length_turns}

-- so many turns make so many events at most, and so many moves
events_driven : (tables : Tables) (tries : ℕ) (d : Drive) (nodes : List ℕ)
    → length (fold (turn_of tables tries) d nodes).events ≤ length d.events + length nodes
events_driven tables tries d [] = omega arith
events_driven tables tries d (n ∷ nodes) =
    omega (arith, events_driven tables tries (turn_of tables tries d n) nodes, events_turned tables tries d n)

one_move : (o : Option Move) → length (option_to_list o) ≤ 1
one_move None = omega arith
one_move (Some m) = omega arith

few_moves : (tables : Tables) (events : List Event) → length (moves_of tables events) ≤ length events
few_moves tables [] = omega arith
few_moves tables (e ∷ events) =
    omega (arith, few_moves tables events, one_move (move_of tables e), length-append (moves_of tables events) (option_to_list (move_of tables e)))

-- what was driven from the start
pub record FromStart (tables : Tables) (tries : ℕ) (nodes : List ℕ) (moves : List Move) (core : Core) : Type 0 where
  pub run : IsRun tables tries (driven tables tries nodes).events
  pub made : moves ≡ moves_of tables (driven tables tries nodes).events
  pub minds : AreMindsAfter tables tries (driven tables tries nodes).events core.minds
  pub few : length moves ≤ length nodes

pub from_start : (first core : Core) (nodes : List ℕ) (moves : List Move) → LeadsTo start_drive first → IsDriven first nodes moves core
    → FromStart first.line first.tries nodes moves core
from_start first core nodes moves start was =
    let end : LeadsTo (driven first.line first.tries nodes) core = was.leads.drives start_drive start in
    let run : IsRun first.line first.tries (driven first.line first.tries nodes).events = rw (was.leads.line, was.leads.tries) at end.run in
    let same : state first.line first.tries (driven first.line first.tries nodes).events ≡ state_of core = rw (was.leads.line, was.leads.tries) at end.state in
    let made : moves_of first.line (driven first.line first.tries nodes).events ≡ moves = was.makes start_drive start in
    record {
      run = run;
      made = sym made;
      minds = λ n mind at. ap (λ (c : CoreState). c.minds n) same ∙ get_or_from_slice_get core.minds n mind _ at;
      few = rw (← made) (omega
          (arith, few_moves first.line (driven first.line first.tries nodes).events, events_driven first.line first.tries start_drive nodes));
    }

-- the same, of a schedule
pub scheduled : (tables : Tables) (tries : ℕ) (items : List Item) (first core : Core) (moves : List Move) → LeadsTo start_drive first → first.line ≡ tables
    → first.tries ≡ tries → IsDriven first (turns_of (node_count (layout_of first.line)) items) moves core
    → FromStart tables tries (turns_of (node_count (layout_of tables)) items) moves core
scheduled tables tries items first core moves start line tries_is was =
    rw (line, tries_is) at (from_start first core (turns_of (node_count (layout_of first.line)) items) moves start was)

pub few_scheduled : (tables : Tables) (tries : ℕ) (items : List Item) (moves : List Move) (core : Core)
    → FromStart tables tries (turns_of (node_count (layout_of tables)) items) moves core → IsScheduleFor (node_count (layout_of tables)) items
    → length moves < 4294967296
few_scheduled tables tries items moves core was fits =
    omega (arith, was.few, length_turns (node_count (layout_of tables)) items, fits.few)

-- the report has no more moves than there are turns
pub few_in_report : (tables : Tables) (tries : ℕ) (nodes : List ℕ) → length (schedule_report tables tries nodes).moves ≤ length nodes
few_in_report tables tries nodes =
    omega (arith, few_moves tables (driven tables tries nodes).events, events_driven tables tries start_drive nodes)

-- and that of a schedule no more than a report may have
pub few_reported : (tables : Tables) (tries : ℕ) (items : List Item) → IsScheduleFor (node_count (layout_of tables)) items
    → length (schedule_report tables tries (turns_of (node_count (layout_of tables)) items)).moves ≤ MAX_MOVES
few_reported tables tries items fits =
    omega (arith, few_in_report tables tries (turns_of (node_count (layout_of tables)) items), length_turns (node_count (layout_of tables)) items, fits.few)

-- what holds of the one value that a result can have
pub of_value : {T E : Type 0} (P : T → Type 0) (r : Result T E) (value : T) → IfOk r (λ x. x ≡ value) → P value → IfOk r P
of_value P (Ok x) value is holds = subst P (sym is) holds
of_value P (Err e) value is holds = tt
