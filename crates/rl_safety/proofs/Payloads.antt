-- The payload of each word after an event: the new one at its word, and the old one at every other.
use Rattle.std.proofs.Common.{◌≡◌, ◌⊎◌, ℕ, ◌+◌, ◌*◌, ◌/◌, ◌%◌, ◌^◌, ◌<◌, true, false, length, slice_get, slice_set, slice_index_or, Some, refl, inl, inr, arith}
use Rattle.std.proofs.lemmas.Bool.{cases_lt}
use Rattle.std.proofs.lemmas.Bool.Decides.{nat_tests}
use Rattle.std.proofs.lemmas.List.{get_or-set_same, get_or-set_other}
use Rattle.std.proofs.lemmas.Option.{slice_get_within, get_or_from_slice_get}
use Rattle.rl_base.specs.Numbers.{IsU32}
use Rattle.rl_base.specs.declared.layout.Layout.{Layout}
use Rattle.rl_base.specs.declared.layout.WordKind.{WordKind}
use Rattle.rl_base.specs.declared.layout.WordKind.TheVariants as words
use Rattle.rl_base.specs.Layout.{word_number, HasWord}
use Rattle.rl_record.specs.declared.event.Event.{Event}
use Rattle.rl_words.specs.Stamps.{payload_in, stamped}
use Rattle.rl_tables.specs.declared.table.Tables.{Tables}
use Rattle.rl_tables.specs.Starts.{layout_of}
use Rattle.rl_steps.specs.Numbers.{word_at}
use Rattle.rl_steps.specs.State.{CoreState, after}
use Rattle.rl_steps.proofs.Numbering.{word_at-number, word_at-some}
use Rattle.rl_safety.specs.Reading.{has_word, payload_of}

-- the test of a word's being there
there_or_not : (lay : Layout) (kind : WordKind) → (has_word lay kind ≡ true × HasWord lay kind) ⊎ (has_word lay kind ≡ false)
there_or_not lay words.Still = inl (refl, tt)
there_or_not lay (words.Resv b) = elim (cases_lt b.0 lay.boxes) [ inl h ↦ inl (grind (arith, nat_tests), h) | inr h ↦ inr (grind (arith, nat_tests)) ]
there_or_not lay (words.Lock b) = elim (cases_lt b.0 lay.boxes) [ inl h ↦ inl (grind (arith, nat_tests), h) | inr h ↦ inr (grind (arith, nat_tests)) ]
there_or_not lay (words.Mail t) = elim (cases_lt t.0 lay.trains) [ inl h ↦ inl (grind (arith, nat_tests), h) | inr h ↦ inr (grind (arith, nat_tests)) ]
there_or_not lay (words.Run t) = elim (cases_lt t.0 lay.trains) [ inl h ↦ inl (grind (arith, nat_tests), h) | inr h ↦ inr (grind (arith, nat_tests)) ]
there_or_not lay (words.Sense t) = elim (cases_lt t.0 lay.trains) [ inl h ↦ inl (grind (arith, nat_tests), h) | inr h ↦ inr (grind (arith, nat_tests)) ]

pub has_word-true : (lay : Layout) (kind : WordKind) → HasWord lay kind → has_word lay kind ≡ true
has_word-true lay words.Still h = refl
has_word-true lay (words.Resv b) h = grind (arith, nat_tests)
has_word-true lay (words.Lock b) h = grind (arith, nat_tests)
has_word-true lay (words.Mail t) h = grind (arith, nat_tests)
has_word-true lay (words.Run t) h = grind (arith, nat_tests)
has_word-true lay (words.Sense t) h = grind (arith, nat_tests)

-- the payload that a word has where it is read by its number
pub payload_read : (tables : Tables) (c : CoreState) (kind : WordKind) (w was : ℕ) → word_at (layout_of tables) w ≡ Some kind
    → slice_get c.words w ≡ Some was → payload_of tables c kind ≡ payload_in was
payload_read tables c kind w was at word =
    let is = word_at-some (layout_of tables) w kind at in
    let got : slice_index_or c.words w 0 ≡ was = get_or_from_slice_get c.words w was 0 word in
    rw (has_word-true (layout_of tables) kind is.0, is.1, got) refl

pub payload_of_stamped : (stamp payload : ℕ) → IsU32 payload → payload_in (stamped stamp payload) ≡ payload
payload_of_stamped stamp payload small =
    let rest : (payload + stamp * 2 ^ 32) % 2 ^ 32 ≡ payload = omega arith in
    let one : (payload + stamp * 2 ^ 32) / 1 ≡ payload + stamp * 2 ^ 32 = omega arith in
    rw one rest

pub payload_changed : (tables : Tables) (c : CoreState) (e : Event) (kind : WordKind) (new : ℕ) → word_at (layout_of tables) e.word.0 ≡ Some kind
    → slice_get c.words e.word.0 ≡ Some e.was → e.now ≡ stamped e.stamp new → IsU32 new → payload_of tables (after tables c e) kind ≡ new
payload_changed tables c e kind new at word now small =
    let is = word_at-some (layout_of tables) e.word.0 kind at in
    let within : e.word.0 < length c.words = slice_get_within c.words e.word.0 e.was word in
    let got : slice_index_or (slice_set c.words e.word.0 e.now) e.word.0 0 ≡ e.now = get_or-set_same c.words e.word.0 e.now 0 within in
    rw (has_word-true (layout_of tables) kind is.0, is.1, got, now) (payload_of_stamped e.stamp new small)

pub payload_kept : (tables : Tables) (c : CoreState) (e : Event) (kind other : WordKind) → word_at (layout_of tables) e.word.0 ≡ Some kind
    → (other ≡ kind → ⊥) → payload_of tables (after tables c e) other ≡ payload_of tables c other
payload_kept tables c e kind other at differ =
    elim (there_or_not (layout_of tables) other) [
      | inl there ↦
          let apart : word_number (layout_of tables) other ≡ e.word.0 → ⊥ = λ same.
          let mine : word_at (layout_of tables) (word_number (layout_of tables) other) ≡ Some other = word_at-number (layout_of tables) other there.1 in
          let his : word_at (layout_of tables) (word_number (layout_of tables) other) ≡ Some kind = rw same at in
          differ (cc (mine, his)) in
          let got : slice_index_or (slice_set c.words e.word.0 e.now) (word_number (layout_of tables) other) 0
          ≡ slice_index_or c.words (word_number (layout_of tables) other) 0 =
          get_or-set_other c.words e.word.0 (word_number (layout_of tables) other) e.now 0 apart in
          rw (there.0, got) refl
      | inr not_there ↦ rw not_there refl
    ]
