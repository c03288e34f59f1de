-- What a load tells, from the run that led to the word.
use Rattle.std.proofs.Common.{◌≡◌, ℕ, suc, ◌+◌, ◌*◌, ◌/◌, ◌%◌, ◌^◌, ◌<◌, ◌≤◌, List, [], ◌∷◌, length, slice_get, slice_set, Some}
use Rattle.std.proofs.Common.{refl, sym, ◌∙◌, inl, inr, arith}
use Rattle.std.proofs.lemmas.Bool.{cases_eq}
use Rattle.rl_base.specs.Numbers.{IsU32}
use Rattle.rl_base.specs.Tries.{AreFewTries}
use Rattle.rl_words.specs.Owner.{Owns}
use Rattle.rl_words.specs.Stamps.{stamp_in, payload_in, stamped}
use Rattle.rl_record.specs.declared.event.Event.{Event}
use Rattle.rl_record.specs.Merge.{history}
use Rattle.rl_tables.specs.declared.table.Tables.{Tables}
use Rattle.rl_tables.specs.Kept.{IsLine}
use Rattle.rl_tables.specs.Starts.{layout_of}
use Rattle.rl_steps.specs.Run.{IsRun, state}
use Rattle.rl_steps.specs.State.{next_stamp}
use Rattle.rl_steps.specs.Sound.{IsSound}
use Rattle.rl_steps.proofs.Made.{IsMade, fits_made}
use Rattle.rl_steps.proofs.Options.{same_some, get_set_same, get_set_other}
use Rattle.rl_rule.specs.Loads.{last_on}
use Rattle.rl_rule.proofs.Histories.{history_own, history_other, last_here, last_there}
use Rattle.rl_rule.proofs.Known.{Laws}

stamp_of_stamped : (stamp payload : ℕ) → IsU32 stamp → IsU32 payload → stamp_in (stamped stamp payload) ≡ stamp
stamp_of_stamped stamp payload s p =
    let quotient : (payload + stamp * 2 ^ 32) / 2 ^ 32 ≡ stamp = omega arith in
    let rest : stamp % 2 ^ 32 ≡ stamp = omega arith in
    rw quotient rest

-- an event of a run: its stamp stands in the word that it writes, and is above that of the word that it found
pub record IsStamped (k : ℕ) (e : Event) : Type 0 where
  pub now : stamp_in e.now ≡ e.stamp
  pub above : stamp_in e.was < e.stamp
  pub most : e.stamp ≤ suc k

pub event_owned : Laws → (tables : Tables) (tries : ℕ) (e : Event) (log : List Event) → IsLine tables → AreFewTries tries → IsU32 (suc (length log)) →
    IsRun tables tries (e ∷ log) → Owns (layout_of tables) e.word.0 (payload_in e.was) e.node.0
event_owned laws tables tries e log line few room run =
    let sound : IsSound tables (length log) (state tables tries log) = laws.runs tables tries log line few (omega arith) run.0 in
    let made : IsMade tables (state tables tries log) e = fits_made tables (state tables tries log) e run.1 in
    (laws.steps tables e.node.0 e.word.0 (payload_in e.was) made.made.0 ((state tables tries log).minds e.node.0) made.made.1 line
    (sound.minds e.node.0) made.step).0

pub event_stamped : Laws → (tables : Tables) (tries : ℕ) (e : Event) (log : List Event) → IsLine tables → AreFewTries tries → IsU32 (suc (length log)) →
    IsRun tables tries (e ∷ log) → IsStamped (length log) e
event_stamped laws tables tries e log line few room run =
    let sound : IsSound tables (length log) (state tables tries log) = laws.runs tables tries log line few (omega arith) run.0 in
    let made : IsMade tables (state tables tries log) e = fits_made tables (state tables tries log) e run.1 in
    let owned = laws.steps tables e.node.0 e.word.0 (payload_in e.was) made.made.0 ((state tables tries log).minds e.node.0) made.made.1 line
    (sound.minds e.node.0) made.step in
    let clock : (state tables tries log).clocks e.node.0 ≤ length log = sound.clocks e.node.0 in
    let was : stamp_in e.was ≤ length log = (sound.words e.word.0 e.was made.was).1 in
    let stamp : e.stamp ≡ next_stamp ((state tables tries log).clocks e.node.0) e.was = made.stamp in
    let most : e.stamp ≤ suc (length log) = omega arith in
    let now : stamp_in (stamped e.stamp made.made.0) ≡ e.stamp = stamp_of_stamped e.stamp made.made.0 (omega arith) owned.1 in
    record { now = rw made.now now; above = omega arith; most = most }

-- the last event of node n on word w has no later stamp than the word, and wrote it where the stamps are equal
pub record IsLater (e : Event) (v : ℕ) : Type 0 where
  pub later : e.stamp ≤ stamp_in v
  pub same : stamp_in v ≡ e.stamp → v ≡ e.now

own_event : (e f : Event) (v : ℕ) → v ≡ f.now → stamp_in f.now ≡ f.stamp → f ≡ e → IsLater e v
own_event e f v is now same = record { later = rw (is, now, same) (omega arith); same = λ _. rw (is, same) refl }

earlier_event : (e f : Event) (v : ℕ) → v ≡ f.now → stamp_in f.now ≡ f.stamp → stamp_in f.was < f.stamp → e.stamp ≤ stamp_in f.was → IsLater e v
earlier_event e f v is now above before =
    let here : stamp_in v ≡ f.stamp = rw is now in
    record { later = omega arith; same = λ equal. absurd (omega arith) }

pub told : Laws → (tables : Tables) (tries : ℕ) (log : List Event) (n w v : ℕ) (e : Event) → IsLine tables → AreFewTries tries → IsU32 (length log) →
    IsRun tables tries log → slice_get (state tables tries log).words w ≡ Some v → last_on w (history n log) ≡ Some e → IsLater e v
told laws tables tries [] n w v e line few room run word last = absurd (cc)
told laws tables tries (f ∷ log) n w v e line few room run word last =
    let made : IsMade tables (state tables tries log) f = fits_made tables (state tables tries log) f run.1 in
    let stamps : IsStamped (length log) f = event_stamped laws tables tries f log line few (omega arith) run in
    let before : (u : ℕ) → slice_get (state tables tries log).words w ≡ Some u → last_on w (history n log) ≡ Some e
    → IsLater e u = λ u at is. told laws tables tries log n w u e line few (omega arith) run.0 at is in
    elim (cases_eq w f.word.0) [
      | inl here ↦
          let there : slice_get (slice_set (state tables tries log).words f.word.0 f.now) f.word.0 ≡ Some f.now =
          get_set_same (state tables tries log).words f.word.0 f.was f.now made.was in
          let word_here : slice_get (slice_set (state tables tries log).words f.word.0 f.now) f.word.0 ≡ Some v = rw here at word in
          let is : v ≡ f.now = same_some (slice_get (slice_set (state tables tries log).words f.word.0 f.now) f.word.0) v f.now word_here there in
          elim (cases_eq f.node.0 n) [
            | inl own ↦
                let mine : last_on w (f ∷ history n log) ≡ Some e = rw (history_own n f log own) at last in
                let found : last_on w (f ∷ history n log) ≡ Some f = last_here w f (history n log) (sym here) in
                own_event e f v is stamps.now (same_some (last_on w (f ∷ history n log)) f e found mine)
            | inr other ↦
                let mine : last_on w (history n log) ≡ Some e = rw (history_other n f log other) at last in
                let was : slice_get (state tables tries log).words w ≡ Some f.was = rw here made.was in
                earlier_event e f v is stamps.now stamps.above (before f.was was mine).later
          ]
      | inr away ↦
          let was : slice_get (state tables tries log).words w ≡ Some v = sym (get_set_other (state tables tries log).words f.word.0 w f.now away) ∙ word in
          elim (cases_eq f.node.0 n) [
            | inl own ↦
                let mine : last_on w (f ∷ history n log) ≡ Some e = rw (history_own n f log own) at last in
                before v was (sym (last_there w f (history n log) (λ same. away (sym same))) ∙ mine)
            | inr other ↦ before v was (rw (history_other n f log other) at last)
          ]
    ]
