-- At a payload of which a glance says no, a box has no step.
use Rattle.std.proofs.Common.{◌≡◌, ℕ, ◌+◌, ◌*◌, ◌%◌, true, false, Option, Some, None, refl, sym, ap, ◌∙◌, arith}
use Rattle.std.proofs.lemmas.Bool.{eq-eqb, or_left, or_right, and_from, true≢false}
use Rattle.rl_base.specs.declared.ids.BoxId.{BoxId}
use Rattle.rl_base.specs.declared.layout.WordKind.{WordKind}
use Rattle.rl_words.specs.declared.lock.LockWord.TheVariants.{Moved}
use Rattle.rl_words.specs.declared.mail.MailWord.TheVariants as mails
use Rattle.rl_words.specs.Lock.{packed_lock}
use Rattle.rl_words.specs.Mail.{packed_mail}
use Rattle.rl_words.specs.Word.{Word, FitsWord, packed_word}
use Rattle.rl_tables.specs.declared.table.BoxTable.{BoxTable}
use Rattle.rl_box.specs.declared.mind.BoxMind.{BoxMind}
use Rattle.rl_box.specs.Glance.{asks_box, says_moved, may_step}
use Rattle.rl_box.specs.Steps.{BoxStep, box_step}
use Rattle.rl_box.specs.Steps.BoxStep.{take, reserve, refuse, release, lock, ask, moved, unlock, say_yes, say_refused, say_barred, busy}
use Rattle.rl_box.proofs.Sentences.{ComparesLetters}
use Rattle.rl_box.proofs.StepLaws.{ReadsWords, step_front}

-- where a step fits, the glance says so
sees : (b : BoxTable) (mind : BoxMind) (word next : Word) (after : BoxMind) → BoxStep b mind word next after → FitsWord word
    → may_step b.number mind.work mind.waiting (packed_word word) ≡ true
sees b _ _ _ _ (take t l waiting to has) fits =
    let here : l.to.0 ≡ b.number.0 = ap (λ (c : BoxId). c.0) to in
    let low : packed_mail (mails.Ask l) % 1024 ≡ 1 + 8 * b.number.0 = omega arith in
    or_left (asks_box b.number (packed_mail (mails.Ask l))) _ (eq-eqb _ _ low)
sees b _ _ _ _ (reserve t l waiting w is free) fits = refl
sees b _ _ _ _ (refuse t u l waiting w is held other) fits = refl
sees b _ _ _ _ (release t l waiting w is held) fits = refl
sees b _ _ _ _ (lock t l side is joins) fits = refl
sees b _ _ _ _ (ask t l side is here there) fits = refl
sees b _ _ _ _ (moved p) fits =
    let low : packed_lock (Moved p) % 8 ≡ 3 = omega arith in
    or_right (asks_box b.number (packed_lock (Moved p))) _ (and_from (says_moved (packed_lock (Moved p))) true (eq-eqb _ _ low) refl)
sees b _ _ _ _ (unlock t l side is joins) fits = refl
sees b _ _ _ _ (say_yes t l waiting) fits = refl
sees b _ _ _ _ (say_refused t u l waiting is) fits = refl
sees b _ _ _ _ (say_barred t u l waiting is) fits = refl
sees b _ _ _ _ (busy t l p is other) fits = refl

-- what has no value is none
none_of : {A : Type 0} (o : Option A) → ((v : A) → o ≡ Some v → ⊥) → o ≡ None
none_of None h = refl
none_of (Some v) h = absurd (h v refl)

pub no_step : ComparesLetters → ReadsWords → (b : BoxTable) (mind : BoxMind) (payload : ℕ) → may_step b.number mind.work mind.waiting payload ≡ false
    → (kind : WordKind) → box_step b mind kind payload ≡ None
no_step same reads b mind payload hidden kind = none_of (box_step b mind kind payload) (λ r e.
    let p = step_front same b mind kind payload r.0 r.1 e in
    let seen = reads kind payload p.seen p.reads in
    let yes = sees b mind p.seen p.left r.1 p.step seen.fits in
    true≢false (sym yes ∙ ap (may_step b.number mind.work mind.waiting) seen.packed ∙ hidden))
