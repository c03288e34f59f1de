-- Every run of events is a run of steps of the protocol.
use Rattle.std.proofs.Common.{◌≡◌, ℕ, zero, suc, ◌+◌, ◌<◌, ◌==◌, Bool, true, false, not, ◌&&◌, ◌||◌, List, [], ◌∷◌, length, slice_get, Option, Some, None}
use Rattle.std.proofs.Common.{option_and_then, refl, sym, ap, ◌∙◌, subst, inl, inr, arith}
use Rattle.std.specs.Prelude.{unwrap_or, cond, count_by}
use Rattle.std.proofs.lemmas.List.Sums.{sum_by-append}
use Rattle.std.specs.Option.{option_map_or}
use Rattle.std.proofs.lemmas.Bool.{cases_eq, ne_eqb}
use Rattle.std.proofs.lemmas.Bool.Decides.{nat_tests}
use Rattle.rl_base.specs.Tries.{AreFewTries}
use Rattle.rl_base.specs.declared.ids.BoxId.{BoxId}
use Rattle.rl_base.specs.declared.ids.TrainId.{TrainId}
use Rattle.rl_base.specs.declared.layout.Layout.{Layout}
use Rattle.rl_base.specs.declared.layout.NodeKind.{NodeKind}
use Rattle.rl_base.specs.declared.layout.NodeKind.TheVariants as nodes
use Rattle.rl_base.specs.declared.layout.WordKind.{WordKind}
use Rattle.rl_base.specs.Layout.{node_number, HasNode, HasWord}
use Rattle.rl_record.specs.declared.event.Event.{Event}
use Rattle.rl_words.specs.declared.run.RunWord.TheVariants.{Go, Across}
use Rattle.rl_words.specs.Stamps.{payload_in}
use Rattle.rl_tables.specs.declared.table.StepRow.{StepRow}
use Rattle.rl_tables.specs.declared.table.TrainTable.{TrainTable}
use Rattle.rl_tables.specs.declared.table.Tables.{Tables}
use Rattle.rl_tables.specs.Kept.{IsLine}
use Rattle.rl_tables.specs.Starts.{layout_of}
use Rattle.rl_steps.specs.declared.mind.Mind.{Mind}
use Rattle.rl_steps.specs.declared.mind.Mind.TheVariants.{Train, Track, Box, Machine}
use Rattle.rl_steps.specs.Numbers.{node_at, word_at}
use Rattle.rl_steps.specs.Sound.{IsMindOf}
use Rattle.rl_steps.specs.Step.{node_step, step_of}
use Rattle.rl_steps.specs.State.{CoreState}
use Rattle.rl_steps.specs.Run as runs
use Rattle.rl_steps.proofs.Keeping.{StepsKeep}
use Rattle.rl_steps.proofs.Made.{IsMade, fits_made}
use Rattle.rl_steps.proofs.Numbering.{node_at-some, word_at-some}
use Rattle.rl_steps.proofs.Options.{from_then, same_some}
use Rattle.rl_steps.proofs.Sounding.{AreMinded, runs_minded}
use Rattle.rl_protocol.specs.Agreement.{Agrees, IsPassing, is_passing}
use Rattle.rl_protocol.specs.Counts.{same_node, events_of}
use Rattle.rl_train.specs.Jobs.{is_pass}
use Rattle.rl_protocol.specs.Line.{Line, IsConsistent}
use Rattle.rl_protocol.specs.Nodes.{node_of}
use Rattle.rl_protocol.specs.Runs as protocol
use Rattle.rl_protocol.specs.State.{State}
use Rattle.rl_protocol.specs.Steps.{Step, StepFits, next}
use Rattle.rl_protocol.specs.TableLine.{line_of, no_row, row_at}
use Rattle.rl_safety.specs.Counts.{events_by}
use Rattle.rl_safety.specs.Stepped.{IsStepped}
use Rattle.rl_safety.specs.Reading.{read, payload_of}
use Rattle.rl_safety.proofs.Events.{ReadsWords, IsStepAt, IsEventStep, from_step, train_event, track_event, box_event, machine_event}
use Rattle.rl_safety.proofs.Payloads.{payload_read}
use Rattle.rl_safety.proofs.Started.{ReadsValues, start_read}

-- the laws of the crates below, by which an event is a step
pub record Laws : Type 0 where
  pub steps : StepsKeep
  pub words : ReadsWords

-- a step that a route has
row_within : (o : Option TrainTable) (k : ℕ) → k < option_map_or (λ (x : TrainTable). length x.rows) o 0
    → option_and_then (λ (x : TrainTable). slice_get x.rows k) o ≡ Some (unwrap_or (option_and_then (λ (x : TrainTable). slice_get x.rows k) o) no_row)
row_within None k within = absurd (omega arith)
row_within (Some x) k within = in_list x.rows k within
  where
    in_list : (rows : List StepRow) (j : ℕ) → j < length rows → slice_get rows j ≡ Some (unwrap_or (slice_get rows j) no_row)
    in_list [] j h = absurd (omega arith)
    in_list (r ∷ rest) zero h = refl
    in_list (r ∷ rest) (suc j) h = in_list rest j (omega arith)

row_there : (tables : Tables) (t k : ℕ) → k < (line_of tables).steps t → row_at tables t k ≡ Some ((line_of tables).row t k)
row_there tables t k within = row_within (slice_get tables.trains t) k within

-- a train that is to go or is across is at a step of its route
waits_of : (waits pass : Bool) → (waits && pass) ≡ true → (begins : Bool) → (waits || not begins) ≡ true
waits_of true pass e begins = refl
waits_of false pass e begins = absurd (cc)

at_go : (s : State) (t j k : ℕ) → IsPassing s t j → s.run t ≡ Go k → k ≡ j
at_go s t j k (inl a) is = cc (a.0)
at_go s t j k (inr (inl a)) is = cc (a.0)
at_go s t j k (inr (inr (inl a))) is = cc (a.0)
at_go s t j k (inr (inr (inr (inl a)))) is = cc (a.0)
at_go s t j k (inr (inr (inr (inr a)))) is = cc (a.0)

at_across : (s : State) (t j k : ℕ) → IsPassing s t j → s.run t ≡ Across k → k ≡ j
at_across s t j k (inl a) is = cc (a.0)
at_across s t j k (inr (inl a)) is = cc (a.0)
at_across s t j k (inr (inr (inl a))) is = cc (a.0)
at_across s t j k (inr (inr (inr (inl a)))) is = cc (a.0)
at_across s t j k (inr (inr (inr (inr a)))) is = cc (a.0)

goes_on_route : (line : Line) (tries : ℕ) (s : State) (t k : ℕ) → Agrees line tries s → s.run t ≡ Go k → k < line.steps t
goes_on_route line tries s t k agrees is = by (is_passing (s.trains t)) refl
  where
    by : (b : Bool) → is_passing (s.trains t) ≡ b → k < line.steps t
    by false e = absurd (cc (((agrees.passage t).stands e).0))
    by true e =
        let same : k ≡ (s.trains t).step = at_go s t (s.trains t).step k ((agrees.passage t).passing e) is in
        let way = (agrees.attempts t).under_way (waits_of (s.trains t).waits (is_pass (s.trains t).job) e _) in
        omega (arith, same, way)

across_on_route : (line : Line) (tries : ℕ) (s : State) (t k : ℕ) → Agrees line tries s → s.run t ≡ Across k → k < line.steps t
across_on_route line tries s t k agrees is = by (is_passing (s.trains t)) refl
  where
    by : (b : Bool) → is_passing (s.trains t) ≡ b → k < line.steps t
    by false e = absurd (cc (((agrees.passage t).stands e).0))
    by true e =
        let same : k ≡ (s.trains t).step = at_across s t (s.trains t).step k ((agrees.passage t).passing e) is in
        let way = (agrees.attempts t).under_way (waits_of (s.trains t).waits (is_pass (s.trains t).job) e _) in
        omega (arith, same, way)

-- the step of any node
node_event : Laws → (tables : Tables) (tries : ℕ) (c : CoreState) (node : NodeKind) (mind : Mind) (kind : WordKind) (payload : ℕ) (made : ℕ × Mind)
    → IsLine tables → Agrees (line_of tables) tries (read tables tries c) → HasNode (layout_of tables) node → HasWord (layout_of tables) kind
    → c.minds (node_number (layout_of tables) node) ≡ mind → IsMindOf tables node mind → payload_of tables c kind ≡ payload
    → step_of tables node mind kind payload ≡ Some made → IsStepAt tables (read tables tries c) node kind payload made
node_event laws tables tries c (nodes.Train t) (Train m) kind payload made line agrees there has mind sound is step =
    train_event laws.steps laws.words tables tries c t m kind payload made line there mind sound is step
node_event laws tables tries c (nodes.Train t) (Track m) kind payload made line agrees there has mind sound is step = absurd sound
node_event laws tables tries c (nodes.Train t) (Box m) kind payload made line agrees there has mind sound is step = absurd sound
node_event laws tables tries c (nodes.Train t) (Machine m) kind payload made line agrees there has mind sound is step = absurd sound
node_event laws tables tries c (nodes.Track t) (Train m) kind payload made line agrees there has mind sound is step = absurd sound
node_event laws tables tries c (nodes.Track t) (Track m) kind payload made line agrees there has mind sound is step =
    track_event laws.steps laws.words tables tries c t m kind payload made there mind sound
    (λ k _ run. row_there tables t.0 k (goes_on_route (line_of tables) tries (read tables tries c) t.0 k agrees run))
    (λ k _ run. row_there tables t.0 k (across_on_route (line_of tables) tries (read tables tries c) t.0 k agrees run)) is step
node_event laws tables tries c (nodes.Track t) (Box m) kind payload made line agrees there has mind sound is step = absurd sound
node_event laws tables tries c (nodes.Track t) (Machine m) kind payload made line agrees there has mind sound is step = absurd sound
node_event laws tables tries c (nodes.Box b) (Train m) kind payload made line agrees there has mind sound is step = absurd sound
node_event laws tables tries c (nodes.Box b) (Track m) kind payload made line agrees there has mind sound is step = absurd sound
node_event laws tables tries c (nodes.Box b) (Box m) kind payload made line agrees there has mind sound is step =
    box_event laws.steps laws.words tables tries c b m kind payload made line has there mind sound is step
node_event laws tables tries c (nodes.Box b) (Machine m) kind payload made line agrees there has mind sound is step = absurd sound
node_event laws tables tries c (nodes.Machine b) (Train m) kind payload made line agrees there has mind sound is step = absurd sound
node_event laws tables tries c (nodes.Machine b) (Track m) kind payload made line agrees there has mind sound is step = absurd sound
node_event laws tables tries c (nodes.Machine b) (Box m) kind payload made line agrees there has mind sound is step = absurd sound
node_event laws tables tries c (nodes.Machine b) (Machine m) kind payload made line agrees there has mind sound is step =
    machine_event laws.steps laws.words tables tries c b m kind payload made there is step

pub event_step : Laws → (tables : Tables) (tries : ℕ) (c : CoreState) (e : Event) → IsLine tables → AreMinded tables c
    → Agrees (line_of tables) tries (read tables tries c) → runs.EventFits tables c e → IsEventStep tables tries c e
event_step laws tables tries c e line minded agrees fits =
    let made : IsMade tables c e = fits_made tables c e fits in
    let node =
    from_then (λ node. option_and_then (λ word. step_of tables node (c.minds e.node.0) word (payload_in e.was)) (word_at (layout_of tables) e.word.0))
    (node_at (layout_of tables) e.node.0) made.made (unfold node_step in made.step) in
    let kind = from_then (λ kind. step_of tables node.0 (c.minds e.node.0) kind (payload_in e.was)) (word_at (layout_of tables) e.word.0) made.made node.2 in
    let node_is = node_at-some (layout_of tables) e.node.0 node.0 node.1 in
    let kind_is = word_at-some (layout_of tables) e.word.0 kind.0 kind.1 in
    let mind : c.minds (node_number (layout_of tables) node.0) ≡ c.minds e.node.0 = ap c.minds node_is.1 in
    let there =
    node_event laws tables tries c node.0 (c.minds e.node.0) kind.0 (payload_in e.was) made.made line agrees node_is.0 kind_is.0 mind
    (minded e.node.0 node.0 node.1) (payload_read tables c kind.0 e.word.0 e.was kind.1 made.was) kind.2 in
    from_step tables tries c e node.0 kind.0 made node.1 kind.1 there

-- a count over a list with one more at its head
count_one : {X : Type 0} (p : X → Bool) (x : X) (xs : List X) → count_by p (x ∷ xs) ≡ cond (p x) 1 0 + count_by p xs
count_one p x xs = sum_by-append (λ y. cond (p y) 1 0) (x ∷ []) xs ∙ ap (λ n. n + count_by p xs) (omega arith)

-- a node is that of a number, or another
same_itself : (node : NodeKind) → same_node node node ≡ true
same_itself (nodes.Train t) = grind (arith, nat_tests)
same_itself (nodes.Track t) = grind (arith, nat_tests)
same_itself (nodes.Box b) = grind (arith, nat_tests)
same_itself (nodes.Machine b) = grind (arith, nat_tests)

train_apart : (t u : TrainId) → (t.0 ≡ u.0 → ⊥) → (t.0 == u.0) ≡ false
train_apart t u differ = ne_eqb t.0 u.0 differ

same_apart : (x y : NodeKind) → (x ≡ y → ⊥) → same_node x y ≡ false
same_apart (nodes.Train t) (nodes.Train u) differ =
    ne_eqb t.0 u.0 (λ same. differ (ap (λ (n : ℕ). let made : TrainId = record { 0 = n } in nodes.Train made) same))
same_apart (nodes.Track t) (nodes.Track u) differ =
    ne_eqb t.0 u.0 (λ same. differ (ap (λ (n : ℕ). let made : TrainId = record { 0 = n } in nodes.Track made) same))
same_apart (nodes.Box b) (nodes.Box c) differ = ne_eqb b.0 c.0 (λ same. differ (ap (λ (n : ℕ). let made : BoxId = record { 0 = n } in nodes.Box made) same))
same_apart (nodes.Machine b) (nodes.Machine c) differ =
    ne_eqb b.0 c.0 (λ same. differ (ap (λ (n : ℕ). let made : BoxId = record { 0 = n } in nodes.Machine made) same))
same_apart (nodes.Train t) (nodes.Track u) differ = refl
same_apart (nodes.Train t) (nodes.Box b) differ = refl
same_apart (nodes.Train t) (nodes.Machine b) differ = refl
same_apart (nodes.Track t) (nodes.Train u) differ = refl
same_apart (nodes.Track t) (nodes.Box b) differ = refl
same_apart (nodes.Track t) (nodes.Machine b) differ = refl
same_apart (nodes.Box b) (nodes.Train t) differ = refl
same_apart (nodes.Box b) (nodes.Track t) differ = refl
same_apart (nodes.Box b) (nodes.Machine c) differ = refl
same_apart (nodes.Machine b) (nodes.Train t) differ = refl
same_apart (nodes.Machine b) (nodes.Track t) differ = refl
same_apart (nodes.Machine b) (nodes.Box c) differ = refl

by_number : (lay : Layout) (m n : ℕ) (x y : NodeKind) → node_at lay m ≡ Some x → node_at lay n ≡ Some y → same_node x y ≡ (m == n)
by_number lay m n x y at_m at_n =
    elim (cases_eq m n) [
      | inl same ↦
          let test : (n == n) ≡ true = grind (arith, nat_tests) in
          let here : node_at lay n ≡ Some x = subst (λ (k : ℕ). node_at lay k ≡ Some x) same at_m in
          let one : x ≡ y = same_some (node_at lay n) x y here at_n in
          rw (same, test, one) (same_itself y)
      | inr other ↦
          let apart : x ≡ y → ⊥ = λ one.
          let m_is : node_number lay x ≡ m = (node_at-some lay m x at_m).1 in
          let n_is : node_number lay y ≡ n = (node_at-some lay n y at_n).1 in
          other (cc) in
          same_apart x y apart ∙ sym (ne_eqb m n other)
    ]

-- what is so of steps, by the protocol's own law
abbrev pub Agreeing : Type 0
Agreeing =
    (line : Line) (tries : ℕ) (steps : List Step) → IsConsistent line → protocol.IsStepRun line tries steps
    → Agrees line tries (protocol.state_after line tries steps)

pub run_stepped : Laws → ReadsValues → Agreeing → (tables : Tables) (tries : ℕ) (events : List Event) → IsLine tables → IsConsistent (line_of tables)
    → AreFewTries tries → runs.IsRun tables tries events → IsStepped tables tries events
run_stepped laws values agreeing tables tries [] line fine few run =
    record { steps = []; run = tt; each = tt; state = start_read values tables tries line; moves = refl; count = refl; by = λ n node at. refl }
run_stepped laws values agreeing tables tries (e ∷ earlier) line fine few run =
    let before = run_stepped laws values agreeing tables tries earlier line fine few run.0 in
    let agrees_there = agreeing (line_of tables) tries before.steps fine before.run in
    let agrees : Agrees (line_of tables) tries (read tables tries (runs.state tables tries earlier)) =
    subst (Agrees (line_of tables) tries) (sym before.state) agrees_there in
    let minded = runs_minded laws.steps tables tries earlier line few run.0 in
    let made = event_step laws tables tries (runs.state tables tries earlier) e line minded agrees run.1 in
    let F : State → Type 0 = λ s. StepFits (line_of tables) s made.step in
    record {
      steps = made.step ∷ before.steps;
      run = (before.run, subst F before.state made.fits);
      each = (before.each, record { fits = made.fits; by = made.at ∙ ap Some (sym made.by); move = made.move; leaves = made.leaves });
      state = made.leaves ∙ ap (λ s. next (line_of tables) s made.step) before.state;
      moves = rw (before.moves, made.move) refl;
      count = ap suc before.count;
      by = λ n node at.
          let test : same_node (node_of made.step) node ≡ (e.node.0 == n) = rw made.by (by_number (layout_of tables) e.node.0 n made.node node made.at at) in
          let counts : cond (e.node.0 == n) 1 0 + events_by n earlier ≡ cond (same_node (node_of made.step) node) 1 0 + events_of node before.steps =
          rw (before.by n node at, test) refl in
          count_one (λ (x : Event). x.node.0 == n) e earlier ∙ counts ∙ sym (count_one (λ (x : Step). same_node (node_of x) node) made.step before.steps);
    }
