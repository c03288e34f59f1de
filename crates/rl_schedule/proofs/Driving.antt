-- Turns one after another: what was driven before goes on by a turn, by more turns, or breaks off.
use Rattle.std.proofs.Common.{◌≡◌, ℕ, ◌+◌, ◌<◌, ◌≤◌, List, [], ◌∷◌, ◌++◌, length, slice_get, Option, Some, None, option_map, option_and_then, Result, Ok, Err, OnErr, refl, sym, ap, ◌∙◌, arith}
use Rattle.std.specs.Prelude.{fold, option_to_list}
use Rattle.std.proofs.lemmas.List.{append_assoc, append-nil, length-append}
use Rattle.std.proofs.lemmas.List.Sums.{fold-append}
use Rattle.std.proofs.lemmas.Option.{slice_get_within}
use Rattle.rl_base.specs.Layout.{word_count}
use Rattle.rl_model.specs.declared.moves.Move.{Move}
use Rattle.rl_record.specs.declared.event.Event.{Event}
use Rattle.rl_record.specs.declared.event.Turn.{Turn}
use Rattle.rl_words.specs.Stamps.{payload_in}
use Rattle.rl_tables.specs.declared.table.Tables.{Tables}
use Rattle.rl_tables.specs.Starts.{layout_of}
use Rattle.rl_steps.specs.declared.mind.Mind.{Mind}
use Rattle.rl_steps.specs.Step.{node_step}
use Rattle.rl_steps.specs.State.{CoreState, event_of, event_at, next_stamp}
use Rattle.rl_steps.specs.Run.{state}
use Rattle.rl_steps.specs.Turn.{Drive, turn_of, answer_of, answer_at, events_with, answer_of_target, events_of_target, target_in}
use Rattle.rl_safety.specs.Moves.{moves_of}
use Rattle.rl_core.specs.Cores.{Core, LeadsTo, IsReached}
use Rattle.rl_schedule.specs.Driven.{Leads, IsDriven, IsPartlyDriven, GoesOn, BreaksOff, IsOnLine, move_in}

-- the moves that a turn adds
moves_with : (tables : Tables) (c : CoreState) (events : List Event) (w : ℕ) (o : Option Event)
    → moves_of tables (events_with events o) ≡ moves_of tables events ++ option_to_list (move_in tables (answer_at c w o))
moves_with tables c events w None = sym (append-nil (moves_of tables events))
moves_with tables c events w (Some e) = refl

moves_at : (tables : Tables) (c : CoreState) (events : List Event) (n : ℕ) (t : Option ℕ)
    → moves_of tables (events_of_target tables c events n t) ≡ moves_of tables events ++ option_to_list (move_in tables (answer_of_target tables c n t))
moves_at tables c events n None = sym (append-nil (moves_of tables events))
moves_at tables c events n (Some w) = moves_with tables c events w (event_of tables c n w)

moves_turned : (tables : Tables) (tries : ℕ) (d : Drive) (n : ℕ)
    → moves_of tables (turn_of tables tries d n).events ≡ moves_of tables d.events ++ option_to_list (move_in tables (answer_of tables tries d n))
moves_turned tables tries d n = moves_at tables (state tables tries d.events) d.events n (target_in tables (state tables tries d.events) d n)

-- the events that a turn adds: one at most
events_with_one : (events : List Event) (o : Option Event) → length (events_with events o) ≤ length events + 1
events_with_one events None = omega arith
events_with_one events (Some e) = omega arith

events_at : (tables : Tables) (c : CoreState) (events : List Event) (n : ℕ) (t : Option ℕ) → length (events_of_target tables c events n t) ≤ length events + 1
events_at tables c events n None = omega arith
events_at tables c events n (Some w) = events_with_one events (event_of tables c n w)

pub events_turned : (tables : Tables) (tries : ℕ) (d : Drive) (n : ℕ) → length (turn_of tables tries d n).events ≤ length d.events + 1
events_turned tables tries d n = events_at tables (state tables tries d.events) d.events n (target_in tables (state tables tries d.events) d n)

-- the word that a turn changes is one of the words
on_line_step : (tables : Tables) (c : CoreState) (n w was : ℕ) (o : Option (ℕ × Mind)) → w < word_count (layout_of tables)
    → IsOnLine tables (answer_at c w (option_map (λ r. event_at n (next_stamp (c.clocks n) was) w was r.0) o))
on_line_step tables c n w was None within = tt
on_line_step tables c n w was (Some r) within = within

on_line_word : (tables : Tables) (c : CoreState) (n w : ℕ) (o : Option ℕ) → length c.words ≡ word_count (layout_of tables) → slice_get c.words w ≡ o
    → IsOnLine tables (answer_at c w
    (option_and_then (λ was. option_map (λ r. event_at n (next_stamp (c.clocks n) was) w was r.0) (node_step tables n (c.minds n) w (payload_in was))) o))
on_line_word tables c n w None words at = tt
on_line_word tables c n w (Some was) words at =
    let within : w < length c.words = slice_get_within c.words w was at in
    on_line_step tables c n w was (node_step tables n (c.minds n) w (payload_in was)) (omega arith)

on_line_at : (tables : Tables) (c : CoreState) (n : ℕ) (t : Option ℕ) → length c.words ≡ word_count (layout_of tables)
    → IsOnLine tables (answer_of_target tables c n t)
on_line_at tables c n None words = tt
on_line_at tables c n (Some w) words = on_line_word tables c n w (slice_get c.words w) words refl

pub on_line : (core new : Core) (n : ℕ) (turn : Turn) (line : Tables) → IsReached core
    → ((d : Drive) → LeadsTo d core → turn ≡ answer_of core.line core.tries d n) → new.line ≡ core.line → line ≡ new.line → IsOnLine line turn
on_line core new n turn line reached answer kept is =
    let d = reached.drive in
    let words : length (state core.line core.tries d.events).words ≡ word_count (layout_of core.line) = rw reached.leads.state reached.sizes.words in
    rw (is, kept, answer d reached.leads)
    (on_line_at core.line (state core.line core.tries d.events) n (target_in core.line (state core.line core.tries d.events) d n) words)

-- a turn after those that lead to the core
leads_on : {from core new : Core} (before : List ℕ) (n : ℕ) → ((d : Drive) → LeadsTo d core → LeadsTo (turn_of core.line core.tries d n) new)
    → new.line ≡ core.line → new.tries ≡ core.tries → Leads from before core → Leads from (before ++ n ∷ []) new
leads_on {from = from} before n turned line tries was =
    record {
      line = line ∙ was.line;
      tries = tries ∙ was.tries;
      drives = λ d leads.
          let there = was.drives d leads in
          let next = turned (fold (turn_of from.line from.tries) d before) there in
          rw (fold-append (turn_of from.line from.tries) d before (n ∷ [])) (rw (was.line, was.tries) at next);
    }

-- by a turn
pub goes_turn : (core new : Core) (n : ℕ) (turn : Turn) (moves : List Move) → IsReached core
    → ((d : Drive) → LeadsTo d core → LeadsTo (turn_of core.line core.tries d n) new)
    → ((d : Drive) → LeadsTo d core → turn ≡ answer_of core.line core.tries d n) → new.line ≡ core.line → new.tries ≡ core.tries
    → GoesOn core moves (n ∷ []) new (moves ++ option_to_list (move_in core.line turn))
goes_turn core new n turn moves reached turned answer line tries =
    record {
      line = line;
      events =
          let d = reached.drive in
          let more : length (turn_of core.line core.tries d n).events ≤ length d.events + 1 = events_turned core.line core.tries d n in
          let was : core.events ≡ length d.events = reached.leads.events in
          let now : new.events ≡ length (turn_of core.line core.tries d n).events = (turned d reached.leads).events in
          omega arith;
      on = λ from before driven. record {
        leads = leads_on before n turned line tries driven.leads;
        makes = λ d leads.
            let there = driven.leads.drives d leads in
            let end = fold (turn_of from.line from.tries) d before in
            let said : turn ≡ answer_of from.line from.tries end n = rw (driven.leads.line, driven.leads.tries) at (answer end there) in
            let made : moves_of from.line end.events ≡ moves_of from.line d.events ++ moves = driven.makes d leads in
            rw (fold-append (turn_of from.line from.tries) d before (n ∷ []), driven.leads.line)
            (moves_turned from.line from.tries end n
            ∙ rw (made, ← said) (append_assoc (moves_of from.line d.events) moves (option_to_list (move_in from.line turn))));
      };
    }

-- by a turn without an event
pub goes_passed : (core new : Core) (n : ℕ) (moves : List Move) → IsReached core
    → ((d : Drive) → LeadsTo d core → LeadsTo (turn_of core.line core.tries d n) new)
    → ((d : Drive) → LeadsTo d core → (turn_of core.line core.tries d n).events ≡ d.events) → new.line ≡ core.line → new.tries ≡ core.tries
    → GoesOn core moves (n ∷ []) new moves
goes_passed core new n moves reached turned quiet line tries =
    record {
      line = line;
      events =
          let d = reached.drive in
          let same : length (turn_of core.line core.tries d n).events ≡ length d.events = ap length (quiet d reached.leads) in
          let was : core.events ≡ length d.events = reached.leads.events in
          let now : new.events ≡ length (turn_of core.line core.tries d n).events = (turned d reached.leads).events in
          omega arith;
      on = λ from before driven. record {
        leads = leads_on before n turned line tries driven.leads;
        makes = λ d leads.
            let end = fold (turn_of from.line from.tries) d before in
            let same : (turn_of from.line from.tries end n).events ≡ end.events =
            rw (driven.leads.line, driven.leads.tries) at (quiet end (driven.leads.drives d leads)) in
            rw (fold-append (turn_of from.line from.tries) d before (n ∷ []))
            (ap (moves_of from.line) same ∙ driven.makes d leads);
      };
    }

-- by a turn whose move was put behind the others
pub goes_put : (core new : Core) (n : ℕ) (turn : Turn) (line : Tables) (moves then_moves : List Move) (o : Option Move) → IsReached core
    → ((d : Drive) → LeadsTo d core → LeadsTo (turn_of core.line core.tries d n) new)
    → ((d : Drive) → LeadsTo d core → turn ≡ answer_of core.line core.tries d n) → new.line ≡ core.line → new.tries ≡ core.tries → line ≡ new.line
    → o ≡ move_in line turn → then_moves ≡ moves ++ option_to_list o → GoesOn core moves (n ∷ []) new then_moves
goes_put core new n turn line moves then_moves o reached turned answer kept tries is made put =
    let goes = goes_turn core new n turn moves reached turned answer kept tries in
    let now : then_moves ≡ moves ++ option_to_list (move_in core.line turn) =
    put ∙ ap (λ x. moves ++ option_to_list x) (made ∙ ap (λ l. move_in l turn) (is ∙ kept)) in
    rw now goes

-- by no turn, and by more turns
pub goes_none : (core : Core) (moves : List Move) → GoesOn core moves [] core moves
goes_none core moves =
    record { line = refl; events = omega arith; on = λ from before driven. rw (append-nil before) driven }

pub goes_more : {a b c : Core} {ms ns ps : List Move} {xs ys : List ℕ} → GoesOn a ms xs b ns → GoesOn b ns ys c ps → GoesOn a ms (xs ++ ys) c ps
goes_more {a = a} {b = b} {c = c} {xs = xs} {ys = ys} first next =
    record {
      line = next.line ∙ first.line;
      events = rw (length-append xs ys) (omega (arith, first.events, next.events));
      on = λ from before driven. rw (← append_assoc before xs ys) (next.on from (before ++ xs) (first.on from before driven));
    }

-- where there is no place for the next move
pub breaks_now : (core : Core) (moves : List Move) (nodes : List ℕ) → BreaksOff core moves nodes core
breaks_now core moves nodes =
    record { off = λ from before driven. record { made = before; left = nodes; all = refl; leads = driven.leads } }

-- after some turns, among the next, of some more
pub breaks_among : {a b c : Core} {ms ns : List Move} {xs ys : List ℕ} → (zs rest : List ℕ) → GoesOn a ms xs b ns → BreaksOff b ns ys c
    → zs ≡ xs ++ (ys ++ rest) → BreaksOff a ms zs c
breaks_among {a = a} {b = b} {c = c} {xs = xs} {ys = ys} zs rest first next is =
    record {
      off = λ from before driven.
          let broken = next.off from (before ++ xs) (first.on from before driven) in
          record {
            made = broken.made;
            left = broken.left ++ rest;
            all = ap (λ l. before ++ l) is ∙ sym (append_assoc before xs (ys ++ rest)) ∙ sym (append_assoc (before ++ xs) ys rest)
                ∙ ap (λ l. l ++ rest) broken.all ∙ append_assoc broken.made broken.left rest;
            leads = broken.leads;
          };
    }

-- what holds in any case holds at an error
pub at_error : {T E P : Type 0} (r : Result T E) → P → OnErr r P
at_error (Ok x) p = tt
at_error (Err e) p = p

-- from where nothing was driven yet
driven_none : (core : Core) → IsDriven core [] [] core
driven_none core =
    record {
      leads = record { line = refl; tries = refl; drives = λ d leads. leads };
      makes = λ d leads. sym (append-nil (moves_of core.line d.events));
    }

pub driven_all : {core to : Core} {none moves : List Move} {nodes : List ℕ} → none ≡ [] → GoesOn core none nodes to moves → IsDriven core nodes moves to
driven_all {core = core} {to = to} {moves = moves} {nodes = nodes} is goes =
    let from : GoesOn core [] nodes to moves = rw (sym is) goes in from.on core [] (driven_none core)

pub driven_partly : {core to : Core} {none : List Move} {nodes : List ℕ} → none ≡ [] → BreaksOff core none nodes to → IsPartlyDriven core nodes to
driven_partly {core = core} {to = to} {nodes = nodes} is breaks =
    let from : BreaksOff core [] nodes to = rw (sym is) breaks in from.off core [] (driven_none core)
