-- What the words say after an event: the new value at its word, and the old one at every other.
use Rattle.std.proofs.Common.{◌≡◌, ℕ, ◌==◌, true, slice_get, Option, Some, unwrap_or, refl, sym, ap, ◌∙◌, inl, inr, if◌then◌else◌, arith}
use Rattle.std.proofs.Math.Path.{fun_ext}
use Rattle.std.proofs.lemmas.Bool.{cases_eq, ne_eqb}
use Rattle.std.proofs.lemmas.Bool.Decides.{nat_tests}
use Rattle.rl_base.specs.Numbers.{IsU32}
use Rattle.rl_base.specs.declared.ids.BoxId.{BoxId}
use Rattle.rl_base.specs.declared.ids.TrainId.{TrainId}
use Rattle.rl_base.specs.declared.layout.WordKind.{WordKind}
use Rattle.rl_base.specs.declared.layout.WordKind.TheVariants as words
use Rattle.rl_base.specs.declared.kind.Side.TheVariants.{Left}
use Rattle.rl_record.specs.declared.event.Event.{Event}
use Rattle.rl_words.specs.declared.resv.ResvWord.{ResvWord}
use Rattle.rl_words.specs.declared.lock.LockWord.{LockWord}
use Rattle.rl_words.specs.declared.lock.LockWord.TheVariants.{Free}
use Rattle.rl_words.specs.declared.mail.MailWord.{MailWord}
use Rattle.rl_words.specs.declared.mail.MailWord.TheVariants.{Empty}
use Rattle.rl_words.specs.declared.run.RunWord.{RunWord}
use Rattle.rl_words.specs.declared.run.RunWord.TheVariants.{Clear}
use Rattle.rl_words.specs.declared.sense.SenseWord.{SenseWord}
use Rattle.rl_words.specs.declared.sense.SenseWord.TheVariants.{Quiet}
use Rattle.rl_words.specs.Readings.{read_resv, read_lock, read_mail, read_run, read_sense}
use Rattle.rl_words.specs.Stamps.{stamped}
use Rattle.rl_tables.specs.declared.table.Tables.{Tables}
use Rattle.rl_tables.specs.Starts.{layout_of}
use Rattle.rl_steps.specs.Numbers.{word_at, train, box}
use Rattle.rl_steps.specs.State.{CoreState, after}
use Rattle.rl_protocol.specs.State.{put}
use Rattle.rl_safety.specs.Reading.{payload_of, holder_read, resv_in, lock_in, mail_in, run_in, sense_in}
use Rattle.rl_safety.proofs.Payloads.{payload_changed, payload_kept}

-- the word of the event, and its new payload
pub record IsOn (tables : Tables) (c : CoreState) (e : Event) (kind : WordKind) (new : ℕ) : Type 0 where
  pub at : word_at (layout_of tables) e.word.0 ≡ Some kind
  pub was : slice_get c.words e.word.0 ≡ Some e.was
  pub now : e.now ≡ stamped e.stamp new
  pub small : IsU32 new

here : (tables : Tables) (c : CoreState) (e : Event) (kind : WordKind) (new : ℕ) → IsOn tables c e kind new → payload_of tables (after tables c e) kind ≡ new
here tables c e kind new on = payload_changed tables c e kind new on.at on.was on.now on.small

kept : (tables : Tables) (c : CoreState) (e : Event) (kind other : WordKind) (new : ℕ) → IsOn tables c e kind new → (other ≡ kind → ⊥)
    → payload_of tables (after tables c e) other ≡ payload_of tables c other
kept tables c e kind other new on differ = payload_kept tables c e kind other on.at differ

set_same : {A : Type 0} (f : ℕ → A) (n : ℕ) (v : A) → put f n v n ≡ v
set_same f n v = grind (arith, nat_tests)

set_other : {A : Type 0} (f : ℕ → A) (n : ℕ) (v : A) (m : ℕ) → (m ≡ n → ⊥) → put f n v m ≡ f m
set_other f n v m other = rw (ne_eqb m n other) refl

box_number : (u : ℕ) (b : BoxId) → box u ≡ b → u ≡ b.0
box_number u b same = ap (λ (x : BoxId). x.0) same

train_number : (u : ℕ) (t : TrainId) → train u ≡ t → u ≡ t.0
train_number u t same = ap (λ (x : TrainId). x.0) same

-- locks
pub locks_kept : (tables : Tables) (c : CoreState) (e : Event) (kind : WordKind) (new : ℕ) → IsOn tables c e kind new
    → ((b : BoxId) → words.Lock b ≡ kind → ⊥) → lock_in tables (after tables c e) ≡ (lock_in tables c)
locks_kept tables c e kind new on differ = fun_ext (λ b. rw (kept tables c e kind (words.Lock (box b)) new on (differ (box b))) refl)

pub locks_new : (tables : Tables) (c : CoreState) (e : Event) (b : BoxId) (v : LockWord) (new : ℕ) → IsOn tables c e (words.Lock b) new
    → read_lock new ≡ Some v → lock_in tables (after tables c e) ≡ put (lock_in tables c) b.0 v
locks_new tables c e b v new on reads =
    fun_ext (λ u. elim (cases_eq u b.0) [
      | inl same ↦
          let mine : unwrap_or (read_lock (payload_of tables (after tables c e) (words.Lock b))) (Free Left) ≡ v =
          rw (here tables c e (words.Lock b) new on, reads) refl in
          rw same (mine ∙ sym (set_same (lock_in tables c) b.0 v))
      | inr other ↦
          rw (set_other (lock_in tables c) b.0 v u other)
          (rw (kept tables c e (words.Lock b) (words.Lock (box u)) new on (λ same. other (box_number u b (cc)))) refl)
    ])

-- mail
pub mails_kept : (tables : Tables) (c : CoreState) (e : Event) (kind : WordKind) (new : ℕ) → IsOn tables c e kind new
    → ((t : TrainId) → words.Mail t ≡ kind → ⊥) → mail_in tables (after tables c e) ≡ (mail_in tables c)
mails_kept tables c e kind new on differ = fun_ext (λ t. rw (kept tables c e kind (words.Mail (train t)) new on (differ (train t))) refl)

pub mails_new : (tables : Tables) (c : CoreState) (e : Event) (t : TrainId) (v : MailWord) (new : ℕ) → IsOn tables c e (words.Mail t) new
    → read_mail new ≡ Some v → mail_in tables (after tables c e) ≡ put (mail_in tables c) t.0 v
mails_new tables c e t v new on reads =
    fun_ext (λ u. elim (cases_eq u t.0) [
      | inl same ↦
          let mine : unwrap_or (read_mail (payload_of tables (after tables c e) (words.Mail t))) Empty ≡ v =
          rw (here tables c e (words.Mail t) new on, reads) refl in
          rw same (mine ∙ sym (set_same (mail_in tables c) t.0 v))
      | inr other ↦
          rw (set_other (mail_in tables c) t.0 v u other)
          (rw (kept tables c e (words.Mail t) (words.Mail (train u)) new on (λ same. other (train_number u t (cc)))) refl)
    ])

-- run
pub runs_kept : (tables : Tables) (c : CoreState) (e : Event) (kind : WordKind) (new : ℕ) → IsOn tables c e kind new
    → ((t : TrainId) → words.Run t ≡ kind → ⊥) → run_in tables (after tables c e) ≡ (run_in tables c)
runs_kept tables c e kind new on differ = fun_ext (λ t. rw (kept tables c e kind (words.Run (train t)) new on (differ (train t))) refl)

pub runs_new : (tables : Tables) (c : CoreState) (e : Event) (t : TrainId) (v : RunWord) (new : ℕ) → IsOn tables c e (words.Run t) new
    → read_run new ≡ Some v → run_in tables (after tables c e) ≡ put (run_in tables c) t.0 v
runs_new tables c e t v new on reads =
    fun_ext (λ u. elim (cases_eq u t.0) [
      | inl same ↦
          let mine : unwrap_or (read_run (payload_of tables (after tables c e) (words.Run t))) (Clear 0) ≡ v =
          rw (here tables c e (words.Run t) new on, reads) refl in
          rw same (mine ∙ sym (set_same (run_in tables c) t.0 v))
      | inr other ↦
          rw (set_other (run_in tables c) t.0 v u other)
          (rw (kept tables c e (words.Run t) (words.Run (train u)) new on (λ same. other (train_number u t (cc)))) refl)
    ])

-- sense
pub senses_kept : (tables : Tables) (c : CoreState) (e : Event) (kind : WordKind) (new : ℕ) → IsOn tables c e kind new
    → ((t : TrainId) → words.Sense t ≡ kind → ⊥) → sense_in tables (after tables c e) ≡ (sense_in tables c)
senses_kept tables c e kind new on differ = fun_ext (λ t. rw (kept tables c e kind (words.Sense (train t)) new on (differ (train t))) refl)

pub senses_new : (tables : Tables) (c : CoreState) (e : Event) (t : TrainId) (v : SenseWord) (new : ℕ) → IsOn tables c e (words.Sense t) new
    → read_sense new ≡ Some v → sense_in tables (after tables c e) ≡ put (sense_in tables c) t.0 v
senses_new tables c e t v new on reads =
    fun_ext (λ u. elim (cases_eq u t.0) [
      | inl same ↦
          let mine : unwrap_or (read_sense (payload_of tables (after tables c e) (words.Sense t))) (Quiet 0) ≡ v =
          rw (here tables c e (words.Sense t) new on, reads) refl in
          rw same (mine ∙ sym (set_same (sense_in tables c) t.0 v))
      | inr other ↦
          rw (set_other (sense_in tables c) t.0 v u other)
          (rw (kept tables c e (words.Sense t) (words.Sense (train u)) new on (λ same. other (train_number u t (cc)))) refl)
    ])

-- reservations
abbrev pub resv_with : (ℕ → ℕ → Option TrainId) → BoxId → ResvWord → ℕ → ℕ → Option TrainId
resv_with f b w u x = if u == b.0 then holder_read (Some w) x else f u x

pub resvs_kept : (tables : Tables) (c : CoreState) (e : Event) (kind : WordKind) (new : ℕ) → IsOn tables c e kind new
    → ((b : BoxId) → words.Resv b ≡ kind → ⊥) → resv_in tables (after tables c e) ≡ resv_in tables c
resvs_kept tables c e kind new on differ = fun_ext (λ b. fun_ext (λ x. rw (kept tables c e kind (words.Resv (box b)) new on (differ (box b))) refl))

pub resvs_new : (tables : Tables) (c : CoreState) (e : Event) (b : BoxId) (w : ResvWord) (new : ℕ) → IsOn tables c e (words.Resv b) new
    → read_resv new ≡ Some w → resv_in tables (after tables c e) ≡ resv_with (resv_in tables c) b w
resvs_new tables c e b w new on reads =
    fun_ext (λ u. fun_ext (λ x. elim (cases_eq u b.0) [
      | inl same ↦
          let mine : holder_read (read_resv (payload_of tables (after tables c e) (words.Resv b))) x ≡ holder_read (Some w) x =
          rw (here tables c e (words.Resv b) new on, reads) refl in
          let test : (b.0 == b.0) ≡ true = grind (arith, nat_tests) in
          let back : holder_read (Some w) x ≡ (if b.0 == b.0 then holder_read (Some w) x else holder_read (read_resv (payload_of tables c (words.Resv b))) x) =
          rw test refl in
          rw same (mine ∙ back)
      | inr other ↦
          rw (ne_eqb u b.0 other) (rw (kept tables c e (words.Resv b) (words.Resv (box u)) new on (λ same. other (box_number u b (cc)))) refl)
    ]))
