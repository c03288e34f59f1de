-- Events that fit a core, the core after one of them, and the runs of lists of events.
use Rattle.std.proofs.Common.{
  Bool,
  false,
  IsTrue,
  ◌≡◌,
  ℕ,
  zero,
  suc,
  ◌+◌,
  ◌<◌,
  ◌≤◌,
  List,
  [],
  ◌∷◌,
  ◌++◌,
  length,
  reverse,
  take,
  drop,
  get_or,
  slice_get,
  add-one,
  Some,
  None,
  option_map,
  refl,
  sym,
  ap,
  ◌∙◌,
  subst,
  inl,
  inr,
  arith,
}
use Rattle.std.proofs.lemmas.Bool.{cases_lt}
use Rattle.std.proofs.lemmas.List.{reverse-append, length-reverse, length-take-le}
use Rattle.std.proofs.Math.Seq.{take-length}
use Rattle.std.proofs.lemmas.Option.{slice_get_within, slice_get-get_or}
use Rattle.rl_base.specs.Layout.{node_count}
use Rattle.rl_words.specs.Stamps.{payload_in}
use Rattle.rl_record.specs.declared.event.Event.{Event}
use Rattle.rl_tables.specs.declared.table.Tables.{Tables}
use Rattle.rl_tables.specs.Starts.{layout_of}
use Rattle.rl_steps.specs.declared.mind.Mind.{Mind}
use Rattle.rl_steps.specs.Numbers.{node_at}
use Rattle.rl_steps.specs.Step.{node_step}
use Rattle.rl_steps.specs.State.{event_at, next_stamp}
use Rattle.rl_steps.specs.Run.{EventFits, IsRun, state}
use Rattle.rl_steps.specs.Turn.{Drive}
use Rattle.rl_steps.proofs.Options.{from_map, from_then}
use Rattle.rl_core.specs.Cores.{Core, state_of, LeadsTo, HasSizes}
use Rattle.rl_core.specs.Made.{made}
use Rattle.rl_core.specs.Redoing.{IsMadeBy}
use Rattle.rl_core.specs.Replays.{replayed, before, IsFirstMisfit}
use Rattle.rl_core.proofs.Started.{past}
use Rattle.rl_core.proofs.Onward.{fits_state, leads_on}
use Rattle.rl_steps.proofs.Acting.{step_node}

-- an event fits exactly where its node makes it
step_within : (core : Core) (n w payload : ℕ) (mind : Mind) (r : ℕ × Mind) → node_step core.line n mind w payload ≡ Some r
    → n < node_count (layout_of core.line)
step_within core n w payload mind r is =
    let node = step_node core.line n w payload mind r is in
    elim (cases_lt n (node_count (layout_of core.line))) [
      | inl within ↦ within
      | inr over ↦ absurd (let none : node_at (layout_of core.line) n ≡ None = past (layout_of core.line) n over in let some = node.1 in cc)
    ]

pub fits_makes : (core : Core) (e : Event) → HasSizes core → EventFits core.line (state_of core) e → (r : ℕ × Mind) × IsMadeBy core e r.0 r.1
fits_makes core e sizes fits =
    let made = λ (was : ℕ) (r : ℕ × Mind). event_at e.node.0 (next_stamp ((state_of core).clocks e.node.0) was) e.word.0 was r.0 in
    let step = λ (was : ℕ). node_step core.line e.node.0 ((state_of core).minds e.node.0) e.word.0 (payload_in was) in
    let word = from_then (λ (was : ℕ). option_map (made was) (step was)) (slice_get core.words e.word.0) e fits in
    let found = from_map (made word.0) (step word.0) e word.2 in
    let same : word.0 ≡ e.was = ap (λ (x : Event). x.was) found.2 in
    let there : slice_get core.words e.word.0 ≡ Some e.was = word.1 ∙ ap Some same in
    let steps : node_step core.line e.node.0 ((state_of core).minds e.node.0) e.word.0 (payload_in e.was) ≡ Some found.0 = ap step (sym same) ∙ found.1 in
    let within : e.word.0 < length core.words = slice_get_within core.words e.word.0 e.was there in (
      found.0,
      record {
        found = record {
          node = step_within core e.node.0 e.word.0 (payload_in e.was) ((state_of core).minds e.node.0) found.0 steps;
          word = omega (arith, sizes.words);
          was = there;
        };
        step = steps;
        event = sym found.2 ∙ ap (λ (was : ℕ). made was found.0) same;
      },
    )

pub makes_fits : (core : Core) (e : Event) (payload : ℕ) (mind : Mind) → IsMadeBy core e payload mind → EventFits core.line (state_of core) e
makes_fits core e payload mind makes =
    let P : Event → Type 0 = λ x. EventFits core.line (state_of core) x in
    subst P (sym makes.event) (fits_state core e.node.0 e.word.0 e.was payload mind makes.found.was makes.step)

-- the core after an event that fits
pub makes_leads : (core : Core) (drive : Drive) (e : Event) (payload : ℕ) (mind : Mind) → HasSizes core → IsMadeBy core e payload mind → LeadsTo drive core
    → LeadsTo (record drive { events = e ∷ drive.events }) (made core e.node.0 e.word.0 e.was payload mind)
makes_leads core drive e payload mind sizes makes leads =
    let P : Event → Type 0 = λ x. LeadsTo (record drive { events = x ∷ drive.events }) (made core e.node.0 e.word.0 e.was payload mind) in
    subst P (sym makes.event) (leads_on core drive e.node.0 e.word.0 e.was payload mind sizes makes.found.node leads makes.found.was makes.step)

-- one event more
pub before_more : (events : List Event) (i : ℕ) (e : Event) → slice_get events i ≡ Some e → before events (i + 1) ≡ e ∷ before events i
before_more events i e there = ap reverse (take_one events i e there) ∙ reverse-append (take i events) (e ∷ [])
  where
    take_suc : (events : List Event) (i : ℕ) (e : Event) → slice_get events i ≡ Some e → take (suc i) events ≡ take i events ++ e ∷ []
    take_suc [] i e there = absurd (cc)
    take_suc (x ∷ xs) zero e there = cc
    take_suc (x ∷ xs) (suc i) e there = ap (λ (l : List Event). x ∷ l) (take_suc xs i e there)

    take_one : (events : List Event) (i : ℕ) (e : Event) → slice_get events i ≡ Some e → take (i + 1) events ≡ take i events ++ e ∷ []
    take_one events i e there = rw add-one (take_suc events i e there)

-- what is before any event of a run is a run, and the event fits it
run_behind : (tables : Tables) (tries : ℕ) (late early : List Event) → IsRun tables tries (late ++ early) → IsRun tables tries early
run_behind tables tries [] early run = run
run_behind tables tries (e ∷ late) early run = run_behind tables tries late early run.0

split_at : (events : List Event) (i : ℕ) → reverse events ≡ reverse (drop i events) ++ before events i
split_at events i = ap reverse (halves events i) ∙ reverse-append (take i events) (drop i events)
  where
    halves : (events : List Event) (i : ℕ) → events ≡ take i events ++ drop i events
    halves [] zero = refl
    halves [] (suc i) = refl
    halves (x ∷ xs) zero = refl
    halves (x ∷ xs) (suc i) = ap (λ (l : List Event). x ∷ l) (halves xs i)

fits_before : (tables : Tables) (tries : ℕ) (events : List Event) (i : ℕ) (e : Event) → slice_get events i ≡ Some e
    → IsRun tables tries (before events (i + 1)) → EventFits tables (state tables tries (before events i)) e
fits_before tables tries events i e there run =
    let P : List Event → Type 0 = λ l. IsRun tables tries l in
    let both : IsRun tables tries (e ∷ before events i) = subst P (before_more events i e there) run in
    both.1

-- no run has an event that doesn't fit
pub no_misfit : (tables : Tables) (tries : ℕ) (events : List Event) (i : ℕ) → IsRun tables tries (reverse events) → IsFirstMisfit tables tries events i → ⊥
no_misfit tables tries events i run misfit =
    let P : List Event → Type 0 = λ l. IsRun tables tries l in
    let upto : IsRun tables tries (before events (i + 1)) = run_behind tables tries (reverse (drop (i + 1) events)) (before events (i + 1))
    (subst P (split_at events (i + 1)) run) in
    misfit.misfit (fits_before tables tries events i misfit.event misfit.there upto)

-- and there is one first event that doesn't
take_take : (events : List Event) (i j : ℕ) → i ≤ j → take i (take j events) ≡ take i events
take_take events zero j le = refl
take_take [] (suc i) zero le = refl
take_take [] (suc i) (suc j) le = refl
take_take (x ∷ xs) (suc i) zero le = absurd (omega arith)
take_take (x ∷ xs) (suc i) (suc j) le = ap (λ (l : List Event). x ∷ l) (take_take xs i j (omega arith))

get_take : (events : List Event) (i j : ℕ) → i < j → slice_get (take j events) i ≡ slice_get events i
get_take [] i zero lt = refl
get_take [] i (suc j) lt = refl
get_take (x ∷ xs) zero zero lt = absurd (omega arith)
get_take (x ∷ xs) zero (suc j) lt = refl
get_take (x ∷ xs) (suc i) zero lt = absurd (omega arith)
get_take (x ∷ xs) (suc i) (suc j) lt = get_take xs i j (omega arith)

no_earlier : (tables : Tables) (tries : ℕ) (events : List Event) (i j : ℕ) → IsFirstMisfit tables tries events i → IsFirstMisfit tables tries events j
    → i < j → ⊥
no_earlier tables tries events i j first second lt =
    let same : before (take j events) i ≡ before events i = ap reverse (take_take events i j (omega arith)) in
    no_misfit tables tries (take j events) i second.before_is (record {
      event = first.event;
      there = get_take events i j lt ∙ first.there;
      before_is = rw same first.before_is;
      misfit = rw same first.misfit;
    })

pub one_misfit : (tables : Tables) (tries : ℕ) (events : List Event) (i j : ℕ) → IsFirstMisfit tables tries events i → IsFirstMisfit tables tries events j
    → i ≡ j
one_misfit tables tries events i j first second =
    elim (cases_lt i j) [
      | inl lt ↦ absurd (no_earlier tables tries events i j first second lt)
      | inr le ↦ (elim (cases_lt j i) [
        | inl lt ↦ absurd (no_earlier tables tries events j i second first lt)
        | inr ge ↦ omega arith
      ])
    ]

-- the loop over the events: one more is made, one doesn't fit, and all are made
pub still_few : (events : List Event) (i : ℕ) (core : Core) → LeadsTo (replayed (take i events)) core → i ≤ length events → core.events ≡ i
still_few events i core leads le = leads.events ∙ length-reverse (take i events) ∙ length-take-le i events le

pub one_more : (events : List Event) (i : ℕ) (d : Event) (core : Core) → i < length events
    → LeadsTo (record (replayed (take i events)) { events = get_or events i d ∷ before events i }) core → LeadsTo (replayed (take (i + 1) events)) core
one_more events i d core lt leads =
    let P : List Event → Type 0 = λ l. LeadsTo (record { events = l; scans = λ n. 0 }) core in
    subst P (sym (before_more events i (get_or events i d) (slice_get-get_or events i d lt))) leads

pub first_misfit : (tables : Tables) (tries : ℕ) (items events : List Event) (i : ℕ) (d : Event) (core : Core) (answer : Bool) → items ≡ events
    → i < length items → LeadsTo (replayed (take i items)) core → core.line ≡ tables → core.tries ≡ tries → answer ≡ false
    → (EventFits core.line (state_of core) (get_or items i d) → IsTrue answer) → IsFirstMisfit tables tries events i
first_misfit tables tries items events i d core answer are lt leads line is fails fits =
    let P : Tables → Type 0 = λ t. IsFirstMisfit t tries events i in
    let Q : ℕ → Type 0 = λ k. IsFirstMisfit core.line k events i in
    let R : List Event → Type 0 = λ l. IsFirstMisfit core.line core.tries l i in
    let misfit : EventFits core.line (state_of core) (get_or items i d) → ⊥ = λ fit. (let yes = fits fit in cc) in
    let here : IsFirstMisfit core.line core.tries items i = record {
      event = get_or items i d;
      there = slice_get-get_or items i d lt;
      before_is = leads.run;
      misfit = rw leads.state misfit;
    } in
    subst P line (subst Q is (subst R are here))

pub all_made : (events : List Event) (i : ℕ) (core : Core) → length events ≤ i → i ≤ length events → LeadsTo (replayed (take i events)) core
    → LeadsTo (replayed events) core
all_made events i core over within leads =
    let at : i ≡ length events = omega arith in
    let P : List Event → Type 0 = λ l. LeadsTo (replayed l) core in
    subst P (ap (λ (k : ℕ). take k events) at ∙ take-length events) leads
