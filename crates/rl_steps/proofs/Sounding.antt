-- The state after every run is sound.
use Rattle.std.proofs.Common.{◌≡◌, ℕ, suc, ◌+◌, ◌*◌, ◌^◌, ◌/◌, ◌%◌, ◌<◌, ◌≤◌, max, List, [], ◌∷◌, length, slice_get, slice_set, Some, refl, sym, ◌∙◌, inl, inr, arith}
use Rattle.std.proofs.lemmas.Bool.{cases_eq, ne_eqb}
use Rattle.std.proofs.lemmas.Bool.Decides.{nat_tests}
use Rattle.std.proofs.lemmas.List.{length-set}
use Rattle.std.proofs.lemmas.Option.{slice_get_within}
use Rattle.rl_base.specs.declared.layout.NodeKind.{NodeKind}
use Rattle.rl_base.specs.Layout.{word_count}
use Rattle.rl_record.specs.declared.event.Event.{Event}
use Rattle.rl_words.specs.Stamps.{stamp_in, payload_in, stamped}
use Rattle.rl_tables.specs.declared.table.Tables.{Tables}
use Rattle.rl_tables.specs.Kept.{IsLine}
use Rattle.rl_tables.specs.Starts.{layout_of}
use Rattle.rl_steps.specs.Numbers.{node_at}
use Rattle.rl_steps.specs.State.{CoreState, start, start_word, start_words, after, mind_after, with_value}
use Rattle.rl_steps.specs.Run.{EventFits, IsRun, state}
use Rattle.rl_steps.specs.Sound.{IsMindOf, IsSound}
use Rattle.rl_steps.proofs.Beginning.{start_fits, start_minds}
use Rattle.rl_steps.proofs.Made.{IsMade, fits_made}
use Rattle.rl_steps.proofs.Keeping.{StepsKeep, step_keeps}
use Rattle.rl_steps.proofs.Options.{same_some, get_set_same, get_set_other}
use Rattle.rl_steps.proofs.Starts.{start_words-length, start_words-get}

put_same : {A : Type 0} (f : ℕ → A) (n : ℕ) (v : A) → with_value f n v n ≡ v
put_same f n v = grind (arith, nat_tests)

put_other : {A : Type 0} (f : ℕ → A) (n : ℕ) (v : A) (m : ℕ) → (m ≡ n → ⊥) → with_value f n v m ≡ f m
put_other f n v m other = rw (ne_eqb m n other) refl

small_stamp : (v : ℕ) → v < 2 ^ 32 → stamp_in v ≡ 0
small_stamp v small = let quotient : v / 2 ^ 32 ≡ 0 = omega arith in rw quotient refl

stamp_of_stamped : (stamp payload : ℕ) → stamp < 2 ^ 32 → payload < 2 ^ 32 → stamp_in (stamped stamp payload) ≡ stamp
stamp_of_stamped stamp payload s p =
    let quotient : (payload + stamp * 2 ^ 32) / 2 ^ 32 ≡ stamp = omega arith in
    let rest : stamp % 2 ^ 32 ≡ stamp = omega arith in
    rw quotient rest

start_sound : (tables : Tables) (tries : ℕ) → IsLine tables → tries ≤ 1000 → IsSound tables 0 (start tables tries)
start_sound tables tries line few =
    let size : length (start_words tables (word_count (layout_of tables))) ≡ word_count (layout_of tables) =
    start_words-length tables (word_count (layout_of tables)) in
    record {
      size = size;
      words = λ w v is.
          let within : w < length (start_words tables (word_count (layout_of tables))) =
          slice_get_within (start_words tables (word_count (layout_of tables))) w v is in
          let there : slice_get (start_words tables (word_count (layout_of tables))) w ≡ Some (start_word tables w) =
          start_words-get tables (word_count (layout_of tables)) w (omega arith) in
          let same : start_word tables w ≡ v = cc in
          let fits : start_word tables w < 2 ^ 32 = start_fits tables w line in
          let fits_v : v < 2 ^ 32 = rw (← same) fits in
          let zero_stamp : stamp_in v ≡ 0 = small_stamp v fits_v in
          (omega arith, omega arith);
      clocks = λ n. omega arith;
      minds = λ n node at. start_minds tables tries n node few at;
    }

word_after : (tables : Tables) (k : ℕ) (c : CoreState) (e : Event) (v : ℕ) → suc k < 2 ^ 32 → IsSound tables k c → (made : IsMade tables c e)
    → made.made.0 < 2 ^ 32 → e.stamp ≤ suc k → v ≡ e.now → (v < 2 ^ 64) × (stamp_in v ≤ suc k)
word_after tables k c e v room sound made small le is =
    let now : v ≡ stamped e.stamp made.made.0 = is ∙ made.now in
    let stamp : stamp_in (stamped e.stamp made.made.0) ≡ e.stamp = stamp_of_stamped e.stamp made.made.0 (omega arith) small in
    let stamp_v : stamp_in v ≡ e.stamp = rw now stamp in
    (omega arith, omega arith)

event_sound : StepsKeep → (tables : Tables) (k : ℕ) (c : CoreState) (e : Event) → IsLine tables → suc k < 2 ^ 32 → IsSound tables k c → EventFits tables c e
    → IsSound tables (suc k) (after tables c e)
event_sound laws tables k c e line room sound fits =
    let made : IsMade tables c e = fits_made tables c e fits in
    let kept = step_keeps laws tables e.node.0 e.word.0 (payload_in e.was) (c.minds e.node.0) made.made line (sound.minds e.node.0) made.step in
    let clock : c.clocks e.node.0 ≤ k = sound.clocks e.node.0 in
    let was : stamp_in e.was ≤ k = (sound.words e.word.0 e.was made.was).1 in
    let stamp : e.stamp ≡ suc (max (c.clocks e.node.0) (stamp_in e.was)) = made.stamp in
    let le : e.stamp ≤ suc k = omega arith in
    record {
      size = length-set c.words e.word.0 e.now ∙ sound.size;
      words = λ w v is.
          elim (cases_eq w e.word.0) [
            | inl same ↦
                let there : slice_get (slice_set c.words e.word.0 e.now) e.word.0 ≡ Some e.now = get_set_same c.words e.word.0 e.was e.now made.was in
                let here : slice_get (slice_set c.words e.word.0 e.now) e.word.0 ≡ Some v = rw same at is in
                word_after tables k c e v room sound made kept.small le (cc)
            | inr other ↦
                let before : slice_get c.words w ≡ Some v = sym (get_set_other c.words e.word.0 w e.now other) ∙ is in
                let old = sound.words w v before in
                (old.0, omega (arith, old.1))
          ];
      clocks = λ n.
          let old : c.clocks n ≤ k = sound.clocks n in
          elim (cases_eq n e.node.0) [
            | inl same ↦ grind (arith, nat_tests)
            | inr other ↦ grind (arith, nat_tests)
          ];
      minds = λ n at_n at.
          elim (cases_eq n e.node.0) [
            | inl same ↦
                let here : node_at (layout_of tables) e.node.0 ≡ Some at_n = rw (← same) at in
                let as_one : kept.node ≡ at_n = same_some (node_at (layout_of tables) e.node.0) kept.node at_n kept.at here in
                rw (same, put_same c.minds e.node.0 (mind_after tables c e), made.mind, ← as_one) kept.mind
            | inr other ↦ rw (put_other c.minds e.node.0 (mind_after tables c e) n other) (sound.minds n at_n at)
          ];
    }

-- the minds alone, after a run of any length
abbrev pub AreMinded : Tables → CoreState → Type 0
AreMinded tables c = (n : ℕ) (node : NodeKind) → node_at (layout_of tables) n ≡ Some node → IsMindOf tables node (c.minds n)

event_minded : StepsKeep → (tables : Tables) (c : CoreState) (e : Event) → IsLine tables → AreMinded tables c → EventFits tables c e
    → AreMinded tables (after tables c e)
event_minded laws tables c e line minded fits =
    let made : IsMade tables c e = fits_made tables c e fits in
    let kept = step_keeps laws tables e.node.0 e.word.0 (payload_in e.was) (c.minds e.node.0) made.made line (minded e.node.0) made.step in
    λ n at_n at.
    elim (cases_eq n e.node.0) [
      | inl same ↦
          let here : node_at (layout_of tables) e.node.0 ≡ Some at_n = rw (← same) at in
          let as_one : kept.node ≡ at_n = same_some (node_at (layout_of tables) e.node.0) kept.node at_n kept.at here in
          rw (same, put_same c.minds e.node.0 (mind_after tables c e), made.mind, ← as_one) kept.mind
      | inr other ↦ rw (put_other c.minds e.node.0 (mind_after tables c e) n other) (minded n at_n at)
    ]

pub runs_minded : StepsKeep → (tables : Tables) (tries : ℕ) (events : List Event) → IsLine tables → tries ≤ 1000 → IsRun tables tries events
    → AreMinded tables (state tables tries events)
runs_minded laws tables tries [] line few run = λ n node at. start_minds tables tries n node few at
runs_minded laws tables tries (e ∷ earlier) line few run =
    event_minded laws tables (state tables tries earlier) e line (runs_minded laws tables tries earlier line few run.0) run.1

pub runs_sound : StepsKeep → (tables : Tables) (tries : ℕ) (events : List Event) → IsLine tables → tries ≤ 1000 → length events < 2 ^ 32
    → IsRun tables tries events → IsSound tables (length events) (state tables tries events)
runs_sound laws tables tries [] line few room run = start_sound tables tries line few
runs_sound laws tables tries (e ∷ earlier) line few room run =
    event_sound laws tables (length earlier) (state tables tries earlier) e line room
    (runs_sound laws tables tries earlier line few (omega arith) run.0) run.1
