-- Two steps of different nodes on different words can be made in either order, and come to the same.
use Rattle.std.proofs.Common.{◌≡◌, ◌≢◌, ℕ, inl, inr, slice_set, Some, refl, sym, ap, ◌∙◌, subst, arith}
use Rattle.std.proofs.Math.Path.{fun_ext}
use Rattle.std.proofs.lemmas.Bool.{cases_eq, ne_eqb}
use Rattle.std.proofs.lemmas.Bool.Decides.{nat_tests}
use Rattle.std.proofs.lemmas.List.{set_comm}
use Rattle.rl_record.specs.declared.event.Event.{Event}
use Rattle.rl_words.specs.Stamps.{payload_in, stamped}
use Rattle.rl_tables.specs.declared.table.Tables.{Tables}
use Rattle.rl_steps.specs.declared.mind.Mind.{Mind}
use Rattle.rl_steps.specs.Step.{node_step}
use Rattle.rl_steps.specs.State.{CoreState, event_at, next_stamp, mind_after, after, with_value}
use Rattle.rl_steps.specs.Run.{EventFits}
use Rattle.rl_steps.proofs.Made.{IsMade}
use Rattle.rl_steps.proofs.Options.{get_set_other}

pub record Apart (e f : Event) : Type 0 where
  pub nodes : e.node.0 ≢ f.node.0
  pub words : e.word.0 ≢ f.word.0

pub apart_back : (e f : Event) → Apart e f → Apart f e
apart_back e f apart = record { nodes = λ same. apart.nodes (sym same); words = λ same. apart.words (sym same) }

pub put_other : {A : Type 0} (f : ℕ → A) (n : ℕ) (v : A) (m : ℕ) → m ≢ n → with_value f n v m ≡ f m
put_other f n v m other = rw (ne_eqb m n other) refl

pub put_same : {A : Type 0} (f : ℕ → A) (n : ℕ) (v : A) → with_value f n v n ≡ v
put_same f n v = grind (arith, nat_tests)

put_both : {A : Type 0} (f : ℕ → A) (m n : ℕ) (v w : A) → m ≢ n → with_value (with_value f m v) n w ≡ with_value (with_value f n w) m v
put_both f m n v w other =
    fun_ext (λ k. elim (cases_eq k n) [
      | inl last ↦ rw last (put_same (with_value f m v) n w ∙ sym (put_other (with_value f n w) m v n (λ is. other (sym is)) ∙ put_same f n w))
      | inr not_last ↦ put_other (with_value f m v) n w k not_last ∙ (elim (cases_eq k m) [
        | inl first ↦ rw first (put_same f m v ∙ sym (put_same (with_value f n w) m v))
        | inr not_first ↦ put_other f m v k not_first ∙ sym (put_other (with_value f n w) m v k not_first ∙ put_other f n w k not_last)
      ])
    ])

-- an event that can be made after another step can be made before it
pub made_before : (tables : Tables) (c : CoreState) (f e : Event) → Apart e f → IsMade tables (after tables c f) e → IsMade tables c e
made_before tables c f e apart made =
    let word = get_set_other c.words f.word.0 e.word.0 f.now apart.words in
    let mind = put_other c.minds f.node.0 (mind_after tables c f) e.node.0 apart.nodes in
    let clock = put_other c.clocks f.node.0 f.stamp e.node.0 apart.nodes in
    let Steps : Mind → Type 0 = λ m. node_step tables e.node.0 m e.word.0 (payload_in e.was) ≡ Some made.made in
    let Stamps : ℕ → Type 0 = λ k. e.stamp ≡ next_stamp k e.was in
    let step : node_step tables e.node.0 (c.minds e.node.0) e.word.0 (payload_in e.was) ≡ Some made.made = subst Steps mind made.step in
    record {
      made = made.made;
      was = sym word ∙ made.was;
      step = step;
      stamp = subst Stamps clock made.stamp;
      now = made.now;
      mind = rw step refl;
    }

-- and the other way round
pub made_after : (tables : Tables) (c : CoreState) (f e : Event) → Apart e f → IsMade tables c e → IsMade tables (after tables c f) e
made_after tables c f e apart made =
    let word = get_set_other c.words f.word.0 e.word.0 f.now apart.words in
    let mind = put_other c.minds f.node.0 (mind_after tables c f) e.node.0 apart.nodes in
    let clock = put_other c.clocks f.node.0 f.stamp e.node.0 apart.nodes in
    let Steps : Mind → Type 0 = λ m. node_step tables e.node.0 m e.word.0 (payload_in e.was) ≡ Some made.made in
    let Stamps : ℕ → Type 0 = λ k. e.stamp ≡ next_stamp k e.was in
    let step : node_step tables e.node.0 ((after tables c f).minds e.node.0) e.word.0 (payload_in e.was) ≡ Some made.made =
    subst Steps (sym mind) made.step in
    record {
      made = made.made;
      was = word ∙ made.was;
      step = step;
      stamp = subst Stamps (sym clock) made.stamp;
      now = made.now;
      mind = rw step refl;
    }

pub made_fits : (tables : Tables) (c : CoreState) (e : Event) → IsMade tables c e → EventFits tables c e
made_fits tables c e made =
    let now : stamped (next_stamp (c.clocks e.node.0) e.was) made.made.0 ≡ e.now = sym (made.now ∙ ap (λ (k : ℕ). stamped k made.made.0) made.stamp) in
    let event : ℕ → ℕ → Event = λ stamp now. record { node = e.node; stamp = stamp; word = e.word; was = e.was; now = now } in
    let is : event_at e.node.0 (next_stamp (c.clocks e.node.0) e.was) e.word.0 e.was made.made.0 ≡ e =
    ap (λ (v : ℕ). event (next_stamp (c.clocks e.node.0) e.was) v) now ∙ ap (λ (k : ℕ). event k e.now) (sym made.stamp) in
    rw (made.was, made.step) (ap (λ (x : Event). Some x) is)

-- the state with what the event writes, when its node's mind is this
abbrev written : CoreState → Event → Mind → CoreState
written c e mind =
    record { words = slice_set c.words e.word.0 e.now; minds = with_value c.minds e.node.0 mind; clocks = with_value c.clocks e.node.0 e.stamp }

written_both : (c : CoreState) (e f : Event) (m n : Mind) → Apart e f → written (written c f n) e m ≡ written (written c e m) f n
written_both c e f m n apart =
    let back = apart_back e f apart in
    let words = set_comm c.words f.word.0 e.word.0 f.now e.now back.words in
    let minds = put_both c.minds f.node.0 e.node.0 n m back.nodes in
    let clocks = put_both c.clocks f.node.0 e.node.0 f.stamp e.stamp back.nodes in
    rw (words, minds, clocks) refl

pub either_order : (tables : Tables) (c : CoreState) (e f : Event) → Apart e f → IsMade tables c f → IsMade tables (after tables c f) e
    → after tables (after tables c f) e ≡ after tables (after tables c e) f
unfolding made_before made_after
either_order tables c e f apart first second =
    let alone = made_before tables c f e apart second in
    let behind = made_after tables c e f (apart_back e f apart) first in
    let one : after tables (after tables c f) e ≡ written (written c f first.made.1) e second.made.1 = rw (second.mind, first.mind) refl in
    let other : after tables (after tables c e) f ≡ written (written c e alone.made.1) f behind.made.1 = rw (behind.mind, alone.mind) refl in
    one ∙ written_both c e f second.made.1 first.made.1 apart ∙ sym other
