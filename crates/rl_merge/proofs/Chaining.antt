-- The histories of a run are chained.
use Rattle.std.proofs.Common.{◌≡◌, ℕ, suc, ◌<◌, ◌≤◌, max, ◌⊎◌, inl, inr, List}
use Rattle.std.proofs.Common.{[], ◌∷◌, length, slice_get, slice_set, Some, refl, sym, ap, ◌∙◌, subst, arith}
use Rattle.std.proofs.Math.Path.{fun_ext}
use Rattle.std.proofs.lemmas.Bool.{cases_eq}
use Rattle.rl_base.specs.Numbers.{IsU32}
use Rattle.rl_base.specs.Tries.{AreFewTries}
use Rattle.rl_words.specs.Stamps.{stamp_in, payload_in}
use Rattle.rl_record.specs.declared.event.Event.{Event}
use Rattle.rl_record.specs.Merge.{history, Falls}
use Rattle.rl_record.proofs.Members.{Has, has_in_history, has_from_history, has_from_contains, contains_from_has}
use Rattle.rl_tables.specs.declared.table.Tables.{Tables}
use Rattle.rl_tables.specs.Kept.{IsLine}
use Rattle.rl_steps.specs.declared.mind.Mind.{Mind}
use Rattle.rl_steps.specs.Step.{node_step}
use Rattle.rl_steps.specs.State.{CoreState, start, next_stamp}
use Rattle.rl_steps.specs.Run.{IsRun, state}
use Rattle.rl_steps.proofs.Made.{IsMade, fits_made}
use Rattle.rl_steps.proofs.Options.{get_set_same, get_set_other, same_some}
use Rattle.rl_merge.specs.Chains.{mind_left, clock_left, IsNodeStep, IsNodeChain, IsOn, HeldBefore, AreChained, AreLeft}
use Rattle.rl_merge.proofs.Later.{Laws, own_stamp}
use Rattle.rl_merge.proofs.Sorted.{sort}
use Rattle.rl_merge.proofs.Chained.{Word, word_at, IsLed, led_minds, led_clocks, own_history, other_history}

-- every run leads to the minds and the clocks of its histories
pub led_run : (tables : Tables) (tries : ℕ) (log : List Event) → IsRun tables tries log → IsLed tables tries log
led_run tables tries [] run = record { run = tt; minds = λ n. refl; clocks = λ n. refl }
led_run tables tries (e ∷ log) run =
    let before = led_run tables tries log run.0 in
    record { run = run; minds = led_minds tables tries e log before; clocks = led_clocks tables tries e log before }

-- and its histories are chained by node
one_step : (tables : Tables) (tries : ℕ) (e : Event) (log : List Event) → IsRun tables tries (e ∷ log)
    → IsNodeStep tables e.node.0 (clock_left (history e.node.0 log)) (mind_left tables tries e.node.0 (history e.node.0 log)) e
one_step tables tries e log run =
    let led = led_run tables tries log run.0 in
    let made = fits_made tables (state tables tries log) e run.1 in
    let Steps : Mind → Type 0 = λ m. node_step tables e.node.0 m e.word.0 (payload_in e.was) ≡ Some made.made in
    let Stamps : ℕ → Type 0 = λ k. e.stamp ≡ next_stamp k e.was in
    record {
      made = made.made;
      node = refl;
      step = subst Steps (led.minds e.node.0) made.step;
      stamp = subst Stamps (led.clocks e.node.0) made.stamp;
      now = made.now;
    }

node_chain : (tables : Tables) (tries : ℕ) (log : List Event) → IsRun tables tries log → (n : ℕ) → IsNodeChain tables tries n (history n log)
node_chain tables tries [] run n = tt
node_chain tables tries (e ∷ log) run n =
    let Chain : List Event → Type 0 = λ l. IsNodeChain tables tries n l in
    elim (cases_eq n e.node.0) [
      | inl same ↦ (
          let Own : ℕ → Type 0 = λ k. IsNodeStep tables k (clock_left (history k log)) (mind_left tables tries k (history k log)) e in
          subst Chain (sym (own_history e log n same)) (node_chain tables tries log run.0 n, subst Own (sym same) (one_step tables tries e log run)))
      | inr other ↦ subst Chain (sym (other_history e log n other)) (node_chain tables tries log run.0 n)
    ]

-- the premises on a run
record IsSoundRun (tables : Tables) (tries : ℕ) (log : List Event) : Type 0 where
  pub line : IsLine tables
  pub few : AreFewTries tries
  pub room : IsU32 (length log)
  pub run : IsRun tables tries log

rest_sound : (tables : Tables) (tries : ℕ) (e : Event) (log : List Event) → IsSoundRun tables tries (e ∷ log) → IsSoundRun tables tries log
rest_sound tables tries e log sound =
    let room : IsU32 (length (e ∷ log)) = sound.room in
    record { line = sound.line; few = sound.few; room = omega arith; run = sound.run.0 }

-- no event on a word has a stamp above the word's
stamped_own : (e : Event) (log : List Event) (v : ℕ) → stamp_in e.now ≡ e.stamp → e.now ≡ v
    → ((g : Event) → Has log g → g.word.0 ≡ e.word.0 → g.stamp < e.stamp)
    → (f : Event) → Has (e ∷ log) f → f.word.0 ≡ e.word.0 → f.stamp ≤ stamp_in v
stamped_own e log v own is below f (inl same) word =
    let stamp : e.stamp ≡ f.stamp = ap (λ (x : Event). x.stamp) same in
    let now : stamp_in v ≡ e.stamp = ap stamp_in (sym is) ∙ own in
    omega arith
stamped_own e log v own is below f (inr there) word =
    let low : f.stamp < e.stamp = below f there word in
    let now : stamp_in v ≡ e.stamp = ap stamp_in (sym is) ∙ own in
    omega arith

below_next : (tables : Tables) (c : CoreState) (e : Event) (log : List Event) → IsMade tables c e
    → ((f : Event) → Has log f → f.word.0 ≡ e.word.0 → f.stamp ≤ stamp_in e.was)
    → (f : Event) → Has log f → f.word.0 ≡ e.word.0 → f.stamp < e.stamp
below_next tables c e log made below f h word =
    let low : f.stamp ≤ stamp_in e.was = below f h word in
    let stamp : e.stamp ≡ suc (max (c.clocks e.node.0) (stamp_in e.was)) = made.stamp in
    omega arith

stamped_words : Laws → (tables : Tables) (tries : ℕ) (log : List Event) → IsSoundRun tables tries log → (w v : ℕ)
    → slice_get (state tables tries log).words w ≡ Some v
    → (f : Event) → Has log f → f.word.0 ≡ w → f.stamp ≤ stamp_in v
stamped_words laws tables tries [] sound w v at f h word = absurd h
stamped_words laws tables tries (e ∷ log) sound w v at f h word =
    let c = state tables tries log in
    let made = fits_made tables c e sound.run.1 in
    let before = stamped_words laws tables tries log (rest_sound tables tries e log sound) in
    elim (cases_eq w e.word.0) [
      | inl same ↦ (
          let At : ℕ → Type 0 = λ k. slice_get (slice_set c.words e.word.0 e.now) k ≡ Some v in
          let there : slice_get (slice_set c.words e.word.0 e.now) e.word.0 ≡ Some v = subst At same at in
          let is : e.now ≡ v =
          same_some (slice_get (slice_set c.words e.word.0 e.now) e.word.0) e.now v (get_set_same c.words e.word.0 e.was e.now made.was) there in
          stamped_own e log v (own_stamp laws tables tries e log sound.line sound.few sound.room sound.run) is
          (below_next tables c e log made (before e.word.0 e.was made.was)) f h (word ∙ same))
      | inr other ↦ (
          let old : slice_get c.words w ≡ Some v = sym (get_set_other c.words e.word.0 w e.now other) ∙ at in
          elim h [
            | inl is ↦ absurd (other (sym (ap (λ (x : Event). x.word.0) is ∙ word)))
            | inr there ↦ before w v old f there word
          ])
    ]

lower : Laws → (tables : Tables) (tries : ℕ) (e : Event) (log : List Event) → IsSoundRun tables tries (e ∷ log)
    → (f : Event) → Has log f → f.word.0 ≡ e.word.0 → f.stamp < e.stamp
lower laws tables tries e log sound =
    let made = fits_made tables (state tables tries log) e sound.run.1 in
    below_next tables (state tables tries log) e log made (stamped_words laws tables tries log (rest_sound tables tries e log sound) e.word.0 e.was made.was)

apart_in : Laws → (tables : Tables) (tries : ℕ) (log : List Event) → IsSoundRun tables tries log → (e f : Event) → Has log e → Has log f
    → e.word.0 ≡ f.word.0 → e.stamp ≡ f.stamp → e ≡ f
apart_in laws tables tries [] sound e f he hf word stamp = absurd he
apart_in laws tables tries (x ∷ log) sound e f (inl a) (inl b) word stamp = sym a ∙ b
apart_in laws tables tries (x ∷ log) sound e f (inl a) (inr there) word stamp =
    let low : f.stamp < x.stamp = lower laws tables tries x log sound f there (sym word ∙ ap (λ (y : Event). y.word.0) (sym a)) in
    let same : x.stamp ≡ e.stamp = ap (λ (y : Event). y.stamp) a in
    absurd (omega arith)
apart_in laws tables tries (x ∷ log) sound e f (inr there) (inl b) word stamp =
    let low : e.stamp < x.stamp = lower laws tables tries x log sound e there (word ∙ ap (λ (y : Event). y.word.0) (sym b)) in
    let same : x.stamp ≡ f.stamp = ap (λ (y : Event). y.stamp) b in
    absurd (omega arith)
apart_in laws tables tries (x ∷ log) sound e f (inr he) (inr hf) word stamp =
    apart_in laws tables tries log (rest_sound tables tries x log sound) e f he hf word stamp

-- what a word held, by the events of one list
record LatestIn (log : List Event) (w s : ℕ) (e : Event) : Type 0 where
  pub there : Has log e
  pub word : e.word.0 ≡ w
  pub below : e.stamp < s
  pub greatest : (f : Event) → Has log f → f.word.0 ≡ w → f.stamp < s → f.stamp ≤ e.stamp

record UntouchedIn (tables : Tables) (tries : ℕ) (log : List Event) (w s v : ℕ) : Type 0 where
  pub none : (f : Event) → Has log f → f.word.0 ≡ w → s ≤ f.stamp
  pub began : slice_get (start tables tries).words w ≡ Some v

abbrev HeldIn : Tables → ℕ → List Event → ℕ → ℕ → ℕ → Type 0
HeldIn tables tries log w s v = ((e : Event) × LatestIn log w s e × (e.now ≡ v)) ⊎ UntouchedIn tables tries log w s v

-- a later event changes nothing of it
held_on : (tables : Tables) (tries : ℕ) (x : Event) (log : List Event) (w s v : ℕ) → (x.word.0 ≡ w → s ≤ x.stamp) → HeldIn tables tries log w s v
    → HeldIn tables tries (x ∷ log) w s v
held_on tables tries x log w s v later (inl (e, latest, is)) =
    inl (
      e,
      record {
        there = inr latest.there;
        word = latest.word;
        below = latest.below;
        greatest = λ f h word low. elim h [
          | inl same ↦ (
              let high : s ≤ x.stamp = later (ap (λ (y : Event). y.word.0) same ∙ word) in
              let stamp : x.stamp ≡ f.stamp = ap (λ (y : Event). y.stamp) same in
              absurd (omega arith))
          | inr there ↦ latest.greatest f there word low
        ];
      },
      is,
    )
held_on tables tries x log w s v later (inr untouched) =
    inr record {
      none = λ f h word. elim h [
        | inl same ↦ (
            let high : s ≤ x.stamp = later (ap (λ (y : Event). y.word.0) same ∙ word) in
            let stamp : x.stamp ≡ f.stamp = ap (λ (y : Event). y.stamp) same in
            omega arith)
        | inr there ↦ untouched.none f there word
      ];
      began = untouched.began;
    }

-- what a word holds now
held_now : (tables : Tables) (tries : ℕ) (log : List Event) (w s v : ℕ) → ((f : Event) → Has log f → f.word.0 ≡ w → f.stamp < s)
    → slice_get (state tables tries log).words w ≡ Some v → Word tables tries log w → HeldIn tables tries log w s v
held_now tables tries log w s v below at (inl (g, newest)) =
    inl (
      g,
      record {
        there = newest.there;
        word = newest.word;
        below = below g newest.there newest.word;
        greatest = λ f h word low. newest.greatest f h word;
      },
      same_some (slice_get (state tables tries log).words w) g.now v newest.holds at,
    )
held_now tables tries log w s v below at (inr bare) =
    inr record { none = λ f h word. absurd (bare.none f h word); began = sym bare.holds ∙ at }

found_in : Laws → (tables : Tables) (tries : ℕ) (log : List Event) → IsSoundRun tables tries log → Falls log → (e : Event) → Has log e
    → HeldIn tables tries log e.word.0 e.stamp e.was
found_in laws tables tries [] sound falls e h = absurd h
found_in laws tables tries (x ∷ log) sound falls e (inl is) =
    let made = fits_made tables (state tables tries log) x sound.run.1 in
    let Found : Event → Type 0 = λ y. HeldIn tables tries (x ∷ log) y.word.0 y.stamp y.was in
    let word = word_at tables tries log falls.1 sound.run.0 x.word.0 in
    subst Found is (held_on tables tries x log x.word.0 x.stamp x.was (λ same. omega arith)
    (held_now tables tries log x.word.0 x.stamp x.was (lower laws tables tries x log sound) made.was word))
found_in laws tables tries (x ∷ log) sound falls e (inr there) =
    held_on tables tries x log e.word.0 e.stamp e.was
    (λ same. let low : e.stamp < x.stamp = lower laws tables tries x log sound e there (sym same) in omega arith)
    (found_in laws tables tries log (rest_sound tables tries x log sound) falls.1 e there)

-- the same by histories
abbrev of_log : List Event → ℕ → List Event
of_log log = λ n. history n log

on_has : (log : List Event) (w : ℕ) (e : Event) → IsOn (of_log log) w e → Has log e
on_has log w e on = (has_from_history e.node.0 log e (has_from_contains (history e.node.0 log) e on.there)).0

has_on : (log : List Event) (w : ℕ) (e : Event) → Has log e → e.word.0 ≡ w → IsOn (of_log log) w e
has_on log w e h word = record { there = contains_from_has (history e.node.0 log) e (has_in_history log e h); word = word }

held : (tables : Tables) (tries : ℕ) (log : List Event) (w s v : ℕ) → HeldIn tables tries log w s v → HeldBefore tables tries (of_log log) w s v
held tables tries log w s v (inl (e, latest, is)) =
    inl (
      e,
      record {
        on = has_on log w e latest.there latest.word;
        below = latest.below;
        greatest = λ f on low. latest.greatest f (on_has log w f on) on.word low;
      },
      is,
    )
held tables tries log w s v (inr untouched) =
    inr record { none = λ f on. untouched.none f (on_has log w f on) on.word; began = untouched.began }

sorted_chained : Laws → (tables : Tables) (tries : ℕ) (log : List Event) → IsSoundRun tables tries log → Falls log → AreChained tables tries (of_log log)
sorted_chained laws tables tries log sound falls =
    record {
      nodes = node_chain tables tries log sound.run;
      apart = λ w e f a b. apart_in laws tables tries log sound e f (on_has log w e a) (on_has log w f b) (a.word ∙ sym b.word);
      found = λ w e on.
          let At : ℕ → Type 0 = λ k. HeldBefore tables tries (of_log log) k e.stamp e.was in
          subst At on.word (held tables tries log e.word.0 e.stamp e.was (found_in laws tables tries log sound falls e (on_has log w e on)));
    }

sorted_left : (tables : Tables) (tries : ℕ) (log : List Event) → IsRun tables tries log → Falls log
    → AreLeft tables tries (of_log log) (state tables tries log).words (state tables tries log).minds
sorted_left tables tries log run falls =
    record {
      words_are = λ w v s at below.
          held tables tries log w s v (held_now tables tries log w s v (λ f h word. below f (has_on log w f h word)) at (word_at tables tries log falls run w));
      minds_are = (led_run tables tries log run).minds;
    }

pub run_chained : Laws → (tables : Tables) (tries : ℕ) (log : List Event) → IsLine tables → AreFewTries tries → IsU32 (length log) → IsRun tables tries log
    → AreChained tables tries (λ n. history n log)
run_chained laws tables tries log line few room run =
    let (all, sorted) = sort laws tables tries line few log run room in
    let sound : IsSoundRun tables tries all = record { line = line; few = few; room = omega (arith, sorted.size); run = sorted.run } in
    let Chained : (ℕ → List Event) → Type 0 = λ h. AreChained tables tries h in
    subst Chained (fun_ext sorted.merge.parts) (sorted_chained laws tables tries all sound sorted.merge.falls)

pub run_left : Laws → (tables : Tables) (tries : ℕ) (log : List Event) → IsLine tables → AreFewTries tries → IsU32 (length log) → IsRun tables tries log
    → AreLeft tables tries (λ n. history n log) (state tables tries log).words (state tables tries log).minds
run_left laws tables tries log line few room run =
    let (all, sorted) = sort laws tables tries line few log run room in
    let Left : (ℕ → List Event) → Type 0 = λ h. AreLeft tables tries h (state tables tries log).words (state tables tries log).minds in
    let LeftBy : CoreState → Type 0 = λ c. AreLeft tables tries (of_log all) c.words c.minds in
    subst Left (fun_ext sorted.merge.parts) (subst LeftBy sorted.state_is (sorted_left tables tries all sorted.run sorted.merge.falls))
