-- At a payload of which a glance says no, a train has no step.
use Rattle.std.proofs.Common.{◌≡◌, ℕ, ◌%◌, ◌==◌, true, false, Option, Some, None, refl, sym, ap, ◌∙◌, arith}
use Rattle.std.proofs.lemmas.Bool.{eq-eqb, or_left, or_right, true≢false}
use Rattle.rl_base.specs.declared.job.Job.{Job}
use Rattle.rl_base.specs.declared.job.Job.TheVariants.{Near, Far, Near2, Far2, Lock, Pass, Unlock, FreeNear, FreeFar, DropFar2, DropNear2, DropFar, DropNear}
use Rattle.rl_base.specs.declared.layout.WordKind.{WordKind}
use Rattle.rl_words.specs.declared.mail.Letter.{Letter}
use Rattle.rl_words.specs.declared.mail.MailWord.TheVariants.{Yes, No}
use Rattle.rl_words.specs.declared.sense.SenseWord.TheVariants.{Tail}
use Rattle.rl_words.specs.Mail.{packed_mail}
use Rattle.rl_words.specs.Sense.{packed_sense}
use Rattle.rl_words.specs.Word.{Word, FitsWord, packed_word}
use Rattle.rl_tables.specs.declared.table.StepRow.{StepRow}
use Rattle.rl_tables.specs.declared.table.TrainTable.{TrainTable}
use Rattle.rl_train.specs.declared.mind.TrainMind.{TrainMind}
use Rattle.rl_train.specs.Glance.{may_hear}
use Rattle.rl_train.specs.Jobs.{letter, is_pass}
use Rattle.rl_train.specs.Steps.{TrainStep, train_step}
use Rattle.rl_train.specs.Steps.TrainStep.{post, hear_yes, hear_no, go, quiet}
use Rattle.rl_train.proofs.Sentences.{ComparesLetters}
use Rattle.rl_train.proofs.StepLaws.{ReadsWords, step_front}

-- a job with a letter isn't the one that passes
has_letter : (row : StepRow) (job : Job) (l : Letter) → letter row job ≡ Some l → is_pass job ≡ false
unfolding letter is_pass
has_letter row Near l is = refl
has_letter row Far l is = refl
has_letter row Near2 l is = refl
has_letter row Far2 l is = refl
has_letter row Lock l is = refl
has_letter row Pass l is = absurd (cc)
has_letter row Unlock l is = refl
has_letter row FreeNear l is = refl
has_letter row FreeFar l is = refl
has_letter row DropFar2 l is = refl
has_letter row DropNear2 l is = refl
has_letter row DropFar l is = refl
has_letter row DropNear l is = refl

-- where a step fits, the glance says so
sees : (table : TrainTable) (mind : TrainMind) (word next : Word) (after : TrainMind) → TrainStep table mind word next after → FitsWord word
    → may_hear mind.waits mind.job (packed_word word) ≡ true
unfolding is_pass
sees table mind _ _ _ (post row l here is waits rests) fits = rw waits refl
sees table mind _ _ _ (hear_yes row l here is waits) fits =
    let low : packed_mail (Yes l) % 8 ≡ 3 = omega arith in
    rw (waits, has_letter row mind.job l is) (or_left (packed_mail (Yes l) % 8 == 3) _ (eq-eqb _ _ low))
sees table mind _ _ _ (hear_no row l u next here is then_job waits) fits =
    let low : packed_mail (No l u) % 8 ≡ 4 = omega arith in
    rw (waits, has_letter row mind.job l is) (or_right (packed_mail (No l u) % 8 == 3) _ (eq-eqb _ _ low))
sees table mind _ _ _ (go is waits) fits = rw waits refl
sees table mind _ _ _ (quiet is waits) fits =
    let low : packed_sense (Tail mind.step) % 4 ≡ 2 = omega arith in
    rw (waits, is) (eq-eqb _ _ low)

-- what has no value is none
none_of : {A : Type 0} (o : Option A) → ((v : A) → o ≡ Some v → ⊥) → o ≡ None
none_of None h = refl
none_of (Some v) h = absurd (h v refl)

pub no_step : ComparesLetters → ReadsWords → (table : TrainTable) (mind : TrainMind) (kind : WordKind) (payload : ℕ)
    → may_hear mind.waits mind.job payload ≡ false → train_step table mind kind payload ≡ None
no_step same reads table mind kind payload hidden = none_of (train_step table mind kind payload) (λ r e.
    let p = step_front same table mind kind payload r.0 r.1 e in
    let seen = reads kind payload p.seen p.reads in
    let yes = sees table mind p.seen p.left r.1 p.step seen.fits in
    true≢false (sym yes ∙ ap (may_hear mind.waits mind.job) seen.packed ∙ hidden))
