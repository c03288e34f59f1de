-- A turn by what its node sees: the run that it leaves, the scan places, and the answer.
use Rattle.std.proofs.Common.{◌≡◌, ℕ, ◌+◌, ◌<◌, ◌≤◌, List, ◌∷◌, slice_get, slice_index_or, Some, refl, sym, ap, subst, ◌∙◌, inl, inr, if◌then◌else◌, Bool, true, false, arith}
use Rattle.std.proofs.lemmas.Bool.{cases_eq, ne_eqb}
use Rattle.std.proofs.lemmas.Bool.Decides.{nat_tests}
use Rattle.std.proofs.lemmas.List.{length-set}
use Rattle.std.proofs.lemmas.Option.{get_or_from_slice_get}
use Rattle.rl_base.specs.declared.ids.WordNo.{WordNo}
use Rattle.rl_base.specs.Layout.{node_count}
use Rattle.rl_record.specs.declared.event.Event.{Event}
use Rattle.rl_record.specs.declared.event.Turn.{Turn}
use Rattle.rl_tables.specs.declared.table.Tables.{Tables}
use Rattle.rl_tables.specs.Starts.{layout_of}
use Rattle.rl_steps.specs.declared.mind.Mind.{Mind}
use Rattle.rl_steps.specs.Step.{is_ready}
use Rattle.rl_steps.specs.State.{with_value}
use Rattle.rl_steps.specs.Turn.{Drive, turn_of, answer_of, events_of_target, answer_of_target, target_in, scanned, next_place}
use Rattle.rl_steps.proofs.Options.{get_set_same, get_set_other}
use Rattle.rl_core.specs.declared.speed.Glance.{Glance}
use Rattle.rl_core.specs.declared.speed.Glance.TheVariants as glances
use Rattle.rl_core.specs.declared.look.Look.{Look}
use Rattle.rl_core.specs.declared.look.Look.TheVariants.{Rests, Idles, Steps}
use Rattle.rl_core.specs.Cores.{Core, state_of, LeadsTo, HasSizes}
use Rattle.rl_core.specs.Made.{event_in, made, advanced}
use Rattle.rl_core.specs.Looks.{IsLook, after_look, answer_to}
use Rattle.rl_core.specs.Speed.{IsGlance, IsNext, look_of, ready_of}
use Rattle.rl_core.specs.Turns.{IsTurn, IsIdleTurn}
use Rattle.rl_core.proofs.Onward.{leads_on}

-- the events after the look
abbrev looked : Core → List Event → ℕ → Look → List Event
looked core events n Rests = events
looked core events n (Idles w was) = events
looked core events n (Steps w was payload mind) = event_in core n w.0 was payload ∷ events

events_looked : (core : Core) (drive : Drive) (n scan : ℕ) (look : Look) → drive.scans n ≡ scan → IsLook core.line (state_of core) n scan look
    → events_of_target core.line (state_of core) drive.events n (target_in core.line (state_of core) drive n) ≡ looked core drive.events n look
events_looked core drive n scan Rests same is = rw (same, is) refl
events_looked core drive n scan (Idles w was) same is = rw (same, is.0.target, is.0.word, is.1) refl
events_looked core drive n scan (Steps w was payload mind) same is = rw (same, is.0.target, is.0.word, is.1) refl

answer_looked : (core : Core) (drive : Drive) (n scan : ℕ) (look : Look) → drive.scans n ≡ scan → IsLook core.line (state_of core) n scan look
    → answer_of_target core.line (state_of core) n (target_in core.line (state_of core) drive n) ≡ answer_to core n look
answer_looked core drive n scan Rests same is = rw (same, is) refl
answer_looked core drive n scan (Idles w was) same is = rw (same, is.0.target, is.0.word, is.1) (rw (get_or_from_slice_get core.words w.0 was 0 is.0.word) refl)
answer_looked core drive n scan (Steps w was payload mind) same is = rw (same, is.0.target, is.0.word, is.1) refl

leads_looked : (core : Core) (drive : Drive) (n scan : ℕ) (look : Look) → HasSizes core → n < node_count (layout_of core.line) → LeadsTo drive core
    → IsLook core.line (state_of core) n scan look → LeadsTo (record drive { events = looked core drive.events n look }) (after_look core n look)
leads_looked core drive n scan Rests sizes there leads is = leads
leads_looked core drive n scan (Idles w was) sizes there leads is = leads
leads_looked core drive n scan (Steps w was payload mind) sizes there leads is = leads_on core drive n w.0 was payload mind sizes there leads is.0.word is.1

-- sizes stay
pub sizes_made : (core : Core) (n w was payload : ℕ) (mind : Mind) → HasSizes core → HasSizes (made core n w was payload mind)
sizes_made core n w was payload mind sizes =
    record {
      words = length-set core.words w _ ∙ sizes.words;
      minds = length-set core.minds n mind ∙ sizes.minds;
      clocks = length-set core.clocks n _ ∙ sizes.clocks;
      scans = sizes.scans;
    }

pub sizes_advanced : (core : Core) (n : ℕ) → HasSizes core → HasSizes (advanced core n)
sizes_advanced core n sizes =
    record { words = sizes.words; minds = sizes.minds; clocks = sizes.clocks; scans = length-set core.scans n _ ∙ sizes.scans }

-- a box that goes on to its next place
pub leads_advanced : (core : Core) (drive : Drive) (n : ℕ) → n < node_count (layout_of core.line) → LeadsTo drive core
    → LeadsTo (record drive { scans = with_value drive.scans n (next_place core.line (drive.scans n)) }) (advanced core n)
leads_advanced core drive n there leads =
    let here : slice_get core.scans n ≡ Some (drive.scans n) = leads.scans n there in
    let at : slice_index_or core.scans n 0 ≡ drive.scans n = get_or_from_slice_get core.scans n (drive.scans n) 0 here in
    record {
      run = leads.run;
      state = leads.state;
      scans = λ m within.
          elim (cases_eq m n) [
            | inl same ↦ rw (same, at, put_same drive.scans n (next_place core.line (drive.scans n)))
                (get_set_same core.scans n (drive.scans n) (next_place core.line (drive.scans n)) here)
            | inr other ↦ rw (put_other drive.scans n (next_place core.line (drive.scans n)) m other)
                (get_set_other core.scans n m _ other ∙ leads.scans m within)
          ];
      events = leads.events;
    }
  where
    put_same : (f : ℕ → ℕ) (n v : ℕ) → with_value f n v n ≡ v
    put_same f n v = grind (arith, nat_tests)

    put_other : (f : ℕ → ℕ) (n v m : ℕ) → (m ≡ n → ⊥) → with_value f n v m ≡ f m
    put_other f n v m other = rw (ne_eqb m n other) refl

-- the core after the turn: a box that was ready goes on to its next place
abbrev after_turn : Core → ℕ → Look → Core
after_turn core n look = if is_ready ((state_of core).minds n) then advanced (after_look core n look) n else after_look core n look

-- the turn of the definition, by what the node sees
turn_looked : (core : Core) (drive : Drive) (n scan : ℕ) (look : Look) → LeadsTo drive core → drive.scans n ≡ scan
    → IsLook core.line (state_of core) n scan look → turn_of core.line core.tries drive n ≡ record
    { events = looked core drive.events n look; scans = scanned core.line drive n ((state_of core).minds n) }
turn_looked core drive n scan look leads same is = rw (leads.state, events_looked core drive n scan look same is) refl

answer_by : (core : Core) (drive : Drive) (n scan : ℕ) (look : Look) → LeadsTo drive core → drive.scans n ≡ scan
    → IsLook core.line (state_of core) n scan look → answer_of core.line core.tries drive n ≡ answer_to core n look
answer_by core drive n scan look leads same is = rw leads.state (answer_looked core drive n scan look same is)

leads_by : (ready : Bool) (core : Core) (drive : Drive) (n scan : ℕ) (look : Look) → HasSizes core → n < node_count (layout_of core.line)
    → LeadsTo drive core → IsLook core.line (state_of core) n scan look → LeadsTo
    (record {
      events = looked core drive.events n look;
      scans = if ready then with_value drive.scans n (next_place core.line (drive.scans n)) else drive.scans;
    })
    (if ready then advanced (after_look core n look) n else after_look core n look)
leads_by false core drive n scan look sizes there leads is = leads_looked core drive n scan look sizes there leads is
leads_by true core drive n scan Rests sizes there leads is = leads_advanced core drive n there leads
leads_by true core drive n scan (Idles w was) sizes there leads is = leads_advanced core drive n there leads
leads_by true core drive n scan (Steps w was payload mind) sizes there leads is =
    leads_advanced (made core n w.0 was payload mind) (record drive { events = event_in core n w.0 was payload ∷ drive.events }) n there
    (leads_looked core drive n scan (Steps w was payload mind) sizes there leads is)

leads_turned : (core : Core) (drive : Drive) (n scan : ℕ) (look : Look) → HasSizes core → n < node_count (layout_of core.line) → LeadsTo drive core
    → drive.scans n ≡ scan → IsLook core.line (state_of core) n scan look → LeadsTo (turn_of core.line core.tries drive n) (after_turn core n look)
leads_turned core drive n scan look sizes there leads same is =
    rw (turn_looked core drive n scan look leads same is)
    (leads_by (is_ready ((state_of core).minds n)) core drive n scan look sizes there leads is)

-- the core after the turn, by what the turn's calls leave
turned_is : (core mid new : Core) (n : ℕ) (look : Look) (ready : Bool) → mid ≡ after_look core n look → ready ≡ is_ready ((state_of core).minds n)
    → new ≡ (if ready then advanced mid n else mid) → new ≡ after_turn core n look
turned_is core mid new n look ready mid_is ready_is new_is = rw (new_is, mid_is, ready_is) refl

line_kept : (core : Core) (n : ℕ) (look : Look) → (after_turn core n look).line ≡ core.line
line_kept core n look = by (is_ready ((state_of core).minds n)) look
  where
    by : (ready : Bool) (look : Look) → (let mine : Core = if ready then advanced (after_look core n look) n else after_look core n look in mine.line) ≡
        core.line
    by false Rests = refl
    by false (Idles w was) = refl
    by false (Steps w was payload mind) = refl
    by true Rests = refl
    by true (Idles w was) = refl
    by true (Steps w was payload mind) = refl

tries_kept : (core : Core) (n : ℕ) (look : Look) → (after_turn core n look).tries ≡ core.tries
tries_kept core n look = by (is_ready ((state_of core).minds n)) look
  where
    by : (ready : Bool) (look : Look) → (let mine : Core = if ready then advanced (after_look core n look) n else after_look core n look in mine.tries) ≡
        core.tries
    by false Rests = refl
    by false (Idles w was) = refl
    by false (Steps w was payload mind) = refl
    by true Rests = refl
    by true (Idles w was) = refl
    by true (Steps w was payload mind) = refl

-- a turn makes one event at most
events_kept : (core : Core) (n : ℕ) (look : Look) → (after_turn core n look).events ≤ core.events + 1
events_kept core n look = by (is_ready ((state_of core).minds n)) look
  where
    by : (ready : Bool) (look : Look) → (let mine : Core = if ready then advanced (after_look core n look) n else after_look core n look in mine.events) ≤
        core.events + 1
    by false Rests = omega arith
    by false (Idles w was) = omega arith
    by false (Steps w was payload mind) = omega arith
    by true Rests = omega arith
    by true (Idles w was) = omega arith
    by true (Steps w was payload mind) = omega arith

-- a turn by its look, from any run that leads to the core
pub turned_by : (core mid new : Core) (n : ℕ) (look : Look) (ready : Bool) (answer : Turn)
    → HasSizes core → n < node_count (layout_of core.line)
    → IsLook core.line (state_of core) n (slice_index_or core.scans n 0) look
    → mid ≡ after_look core n look → ready ≡ is_ready ((state_of core).minds n) → new ≡ (if ready then advanced mid n else mid)
    → answer ≡ answer_to core n look → IsTurn core new n answer
turned_by core mid new n look ready answer sizes there is mid_is ready_is new_is says =
    let after : new ≡ after_turn core n look = turned_is core mid new n look ready mid_is ready_is new_is in
    let place : (d : Drive) → LeadsTo d core → d.scans n ≡ slice_index_or core.scans n 0 =
    λ d leads. sym (get_or_from_slice_get core.scans n (d.scans n) 0 (leads.scans n there)) in
    record {
      turned = λ d leads. rw after (leads_turned core d n (slice_index_or core.scans n 0) look sizes there leads (place d leads) is);
      answer = λ d leads. says ∙ sym (answer_by core d n (slice_index_or core.scans n 0) look leads (place d leads) is);
      line = ap (λ (x : Core). x.line) after ∙ line_kept core n look;
      tries = ap (λ (x : Core). x.tries) after ∙ tries_kept core n look;
      events = rw after (events_kept core n look);
    }

-- a turn of a node without a step, as a glance tells
same_core : (core : Core) (n : ℕ) (glance : Glance) → core ≡ after_look core n (look_of glance)
same_core core n glances.Rests = refl
same_core core n (glances.Idles w was) = refl
same_core core n (glances.Scans w was next) = refl

same_events : (core : Core) (events : List Event) (n : ℕ) (glance : Glance) → looked core events n (look_of glance) ≡ events
same_events core events n glances.Rests = refl
same_events core events n (glances.Idles w was) = refl
same_events core events n (glances.Scans w was next) = refl

pub passed_by : (core new : Core) (n : ℕ) (glance : Glance) (answer : Turn) → HasSizes core → n < node_count (layout_of core.line)
    → IsGlance core.line (state_of core) n (slice_index_or core.scans n 0) glance → new ≡ (if ready_of glance then advanced core n else core)
    → answer ≡ answer_to core n (look_of glance) → IsTurn core new n answer
passed_by core new n glance answer sizes there is new_is says =
    turned_by core core new n (look_of glance) (ready_of glance) answer sizes there is.look (same_core core n glance) is.ready new_is says

no_event : (core : Core) (n : ℕ) (glance : Glance) → n < node_count (layout_of core.line)
    → IsGlance core.line (state_of core) n (slice_index_or core.scans n 0) glance
    → (d : Drive) → LeadsTo d core → (turn_of core.line core.tries d n).events ≡ d.events
no_event core n glance there is d leads =
    let place : d.scans n ≡ slice_index_or core.scans n 0 = sym (get_or_from_slice_get core.scans n (d.scans n) 0 (leads.scans n there)) in
    ap (λ (x : Drive). x.events) (turn_looked core d n (slice_index_or core.scans n 0) (look_of glance) leads place is.look)
    ∙ same_events core d.events n glance

same_count : (core : Core) (n : ℕ) (ready : Bool) → (let mine : Core = if ready then advanced core n else core in mine.events) ≡ core.events
same_count core n false = refl
same_count core n true = refl

pub idle_by : (core new : Core) (n : ℕ) (glance : Glance) (answer : Turn) → HasSizes core → n < node_count (layout_of core.line)
    → IsGlance core.line (state_of core) n (slice_index_or core.scans n 0) glance → new ≡ (if ready_of glance then advanced core n else core)
    → answer ≡ answer_to core n (look_of glance) → IsIdleTurn core new n
idle_by core new n glance answer sizes there is new_is says =
    let done = passed_by core new n glance answer sizes there is new_is says in
    record {
      turned = done.turned;
      no_event = no_event core n glance there is;
      line = done.line;
      tries = done.tries;
      events = rw new_is (same_count core n (ready_of glance));
    }

-- the place that a glance of a ready box tells
pub next_told : (tables : Tables) (scan : ℕ) (glance : Glance) (w : WordNo) (was next : ℕ) → glance ≡ glances.Scans w was next
    → IsNext tables scan glance → next ≡ next_place tables scan
next_told tables scan glance w was next is told = subst (λ (g : Glance). IsNext tables scan g) is told
