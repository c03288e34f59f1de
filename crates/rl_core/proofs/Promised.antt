-- What turns promise, by what is so of every run.
use Rattle.std.proofs.Common.{◌≡◌, ℕ, ◌<◌, true, List, ◌∷◌, length, Option, Some, None, refl, sym, ap, subst, ◌∙◌, arith}
use Rattle.std.specs.Prelude.{◌↔◌}
use Rattle.rl_base.specs.Layout.{node_count}
use Rattle.rl_base.specs.Tries.{AreFewTries}
use Rattle.rl_base.specs.declared.ids.BoxId.{BoxId}
use Rattle.rl_base.specs.declared.layout.NodeKind.TheVariants as nodes
use Rattle.rl_model.specs.declared.network.NetworkPlan.{NetworkPlan}
use Rattle.rl_model.specs.Network.{IsNetwork}
use Rattle.rl_record.specs.declared.event.Event.{Event}
use Rattle.rl_record.specs.declared.event.Turn.{Turn}
use Rattle.rl_record.specs.declared.event.Turn.TheVariants.{Moved, Idle, Rest, Full}
use Rattle.rl_tables.specs.declared.table.Tables.{Tables}
use Rattle.rl_tables.specs.Kept.{IsLine}
use Rattle.rl_tables.specs.Starts.{layout_of}
use Rattle.rl_tables.specs.Tables.{AreTablesOf}
use Rattle.rl_steps.specs.Numbers.{node_at}
use Rattle.rl_steps.specs.Run.{IsRun, state}
use Rattle.rl_steps.specs.State.{CoreState, event_of}
use Rattle.rl_steps.specs.Step.{is_ready}
use Rattle.rl_steps.specs.Turn.{Drive, turn_of, answer_of, answer_at, answer_of_target, events_with, events_of_target, target_in}
use Rattle.rl_safety.specs.Guarded.{IsGuarded}
use Rattle.rl_safety.specs.Promises.{KeepsPromises}
use Rattle.rl_safety.specs.Rests.{IsTrainAtRest}
use Rattle.rl_safety.specs.World.{world_of_core}
use Rattle.rl_core.specs.Cores.{Core, state_of, LeadsTo, IsReached}
use Rattle.rl_core.specs.Promises.{IsTurnOn, KeepsTurn, KeepsIdleTurn}
use Rattle.rl_core.specs.Turns.{IsTurn, IsIdleTurn}

-- what is so of runs, by their laws
pub record RunLaws : Type 0 where
  pub promises : (tables : Tables) (tries : ℕ) (events : List Event) → IsLine tables → AreFewTries tries → IsRun tables tries events
      → KeepsPromises tables tries events
  pub guarded : (net : NetworkPlan) (tables : Tables) (tries : ℕ) (e : Event) (earlier : List Event) → IsNetwork net → AreTablesOf net tables
      → AreFewTries tries → IsRun tables tries (e ∷ earlier)
      → IsGuarded net tables (state tables tries earlier) (state tables tries (e ∷ earlier)) e
  pub rests : (tables : Tables) (tries : ℕ) (d : Drive) (n : ℕ) → IsLine tables → AreFewTries tries → IsRun tables tries d.events
      → n < node_count (layout_of tables) → (answer_of tables tries d n ≡ Rest) ↔ IsTrainAtRest tables (state tables tries d.events) n
  pub idles : (tables : Tables) (tries : ℕ) (d : Drive) (n : ℕ) (b : BoxId) (word : ℕ) → IsLine tables → AreFewTries tries
      → IsRun tables tries d.events → node_at (layout_of tables) n ≡ Some (nodes.Box b) → answer_of tables tries d n ≡ Idle word
      → is_ready ((state tables tries d.events).minds n) ≡ true

-- the events after a turn that answers this
abbrev answered : List Event → Turn → List Event
answered events (Moved e) = e ∷ events
answered events (Idle was) = events
answered events Rest = events
answered events Full = events

events_answered : (tables : Tables) (c : CoreState) (events : List Event) (n : ℕ) (o : Option ℕ)
    → events_of_target tables c events n o ≡ answered events (answer_of_target tables c n o)
events_answered tables c events n None = refl
events_answered tables c events n (Some w) = by (event_of tables c n w)
  where
    by : (o : Option Event) → events_with events o ≡ answered events (answer_at c w o)
    by None = refl
    by (Some e) = refl

never_full : (tables : Tables) (c : CoreState) (n : ℕ) (o : Option ℕ) → Full ≡ answer_of_target tables c n o → ⊥
never_full tables c n None e = cc
never_full tables c n (Some w) e = by (event_of tables c n w) e
  where
    by : (o : Option Event) → Full ≡ answer_at c w o → ⊥
    by None same = cc
    by (Some event) same = cc

-- a list isn't one with one more at its head
longer : (e : Event) (events : List Event) → e ∷ events ≡ events → ⊥
longer e events same = let long = ap length same in omega arith

-- a run that leads to the new core, on the line of the old one
abbrev OnLine : (old new : Core) → List Event → Type 0
OnLine old new events = IsRun old.line old.tries events × (state old.line old.tries events ≡ state_of new)

on_line : (old new : Core) (d : Drive) → new.line ≡ old.line → new.tries ≡ old.tries → LeadsTo d new → OnLine old new d.events
on_line old new d line tries leads = rw (← line, ← tries) (leads.run, leads.state)

module _ (laws : RunLaws) (old new : Core) (n : ℕ) (reached : IsReached old) where
  -- the run behind the new core, by what the turn answered
  turned : (says : Turn) → IsTurn old new n says → OnLine old new (answered reached.drive.events says)
  turned says turn =
      let d = reached.drive in
      let there = on_line old new (turn_of old.line old.tries d n) turn.line turn.tries (turn.turned d reached.leads) in
      let c = state old.line old.tries d.events in
      let same : (turn_of old.line old.tries d n).events ≡ answered d.events says =
      events_answered old.line c d.events n (target_in old.line c d n) ∙ ap (answered d.events) (sym (turn.answer d reached.leads)) in
      subst (OnLine old new) same there

  runs_kept : new.line ≡ old.line → new.tries ≡ old.tries → (d : Drive) → LeadsTo d new → KeepsPromises new.line new.tries d.events
  runs_kept line tries d leads = laws.promises new.line new.tries d.events (rw line reached.line) (rw tries reached.few_tries) leads.run

  -- without an event the state stays
  stays : OnLine old new reached.drive.events → state_of new ≡ state_of old
  stays there = sym there.1 ∙ reached.leads.state

  turn_on : (says : Turn) → OnLine old new (answered reached.drive.events says) → (net : NetworkPlan) → IsNetwork net → AreTablesOf net old.line
      → IsTurnOn net old.line (state_of old) (state_of new) says
  turn_on (Moved e) there net network are =
      let guarded = laws.guarded net old.line old.tries e reached.drive.events network are reached.few_tries there.0 in
      let before : CoreState → Type 0 = λ c. IsGuarded net old.line c (state_of new) e in
      let then : CoreState → Type 0 = λ c. IsGuarded net old.line (state old.line old.tries reached.drive.events) c e in
      subst before reached.leads.state (subst then there.1 guarded)
  turn_on (Idle was) there net network are = ap (world_of_core net old.line) (stays there)
  turn_on Rest there net network are = ap (world_of_core net old.line) (stays there)
  turn_on Full there net network are = ap (world_of_core net old.line) (stays there)

  pub kept_turn : (says : Turn) → n < node_count (layout_of old.line) → IsTurn old new n says → KeepsTurn old new n says
  kept_turn says there turn =
      let d = reached.drive in
      let answer : says ≡ answer_of old.line old.tries d n = turn.answer d reached.leads in
      let rests = laws.rests old.line old.tries d n reached.line reached.few_tries reached.leads.run there in
      let Rests : CoreState → Type 0 = λ c. IsTrainAtRest old.line c n in
      record {
        on = turn_on says (turned says turn);
        rests = (
          λ rest. subst Rests reached.leads.state (rests.0 (sym answer ∙ rest)),
          λ resting. answer ∙ rests.1 (subst Rests (sym reached.leads.state) resting),
        );
        idles = λ b word at idle.
            ap (λ (c : CoreState). is_ready (c.minds n)) (sym reached.leads.state)
            ∙ laws.idles old.line old.tries d n b word reached.line reached.few_tries reached.leads.run at (sym answer ∙ idle);
        runs = runs_kept turn.line turn.tries;
      }

  ready_by : (says : Turn) → IsTurn old new n says → KeepsTurn old new n says → IsIdleTurn old new n → (b : BoxId)
      → node_at (layout_of old.line) n ≡ Some (nodes.Box b) → is_ready ((state_of old).minds n) ≡ true
  ready_by (Moved e) turn kept idle b at =
      let d = reached.drive in
      let c = state old.line old.tries d.events in
      let more : (turn_of old.line old.tries d n).events ≡ e ∷ d.events =
      events_answered old.line c d.events n (target_in old.line c d n) ∙ ap (answered d.events) (sym (turn.answer d reached.leads)) in
      absurd (longer e d.events (sym more ∙ idle.no_event d reached.leads))
  ready_by (Idle was) turn kept idle b at = kept.idles b was at refl
  ready_by Rest turn kept idle b at = let resting = kept.rests.0 refl in absurd (let train = resting.node in cc)
  ready_by Full turn kept idle b at =
      let d = reached.drive in
      let c = state old.line old.tries d.events in
      absurd (never_full old.line c n (target_in old.line c d n) (turn.answer d reached.leads))

  pub kept_idle : (says : Turn) → n < node_count (layout_of old.line) → IsTurn old new n says → IsIdleTurn old new n → KeepsIdleTurn old new n
  kept_idle says there turn idle =
      let d = reached.drive in
      let led = on_line old new (turn_of old.line old.tries d n) idle.line idle.tries (idle.turned d reached.leads) in
      record {
        still = stays (subst (OnLine old new) (idle.no_event d reached.leads) led);
        ready = ready_by says turn (kept_turn says there turn) idle;
        runs = runs_kept idle.line idle.tries;
      }
