-- What is read of a payload: the value of which it is the packing.
use Rattle.std.proofs.Common.{◌≡◌, ◌≢◌, ℕ, zero, suc, ◌+◌, ◌*◌, ◌^◌, ◌<◌, ◌==◌, lit<, Bool, true, ◌&&◌, Option, Some, None, IfSome, IfNone, refl, sym, ap, ◌∙◌, arith}
use Rattle.std.proofs.lemmas.Bool.{and_parts, and_from, eqb-true, eq-eqb, ne_eqb, eqb-false, ltb-true, lt-ltb, leb-true, le-leb, not-true, not_from_false, cond-true}
use Rattle.std.proofs.lemmas.Option.{cond_some}
use Rattle.rl_base.specs.declared.ids.TrainId.{TrainId}
use Rattle.rl_base.specs.declared.limits.TheConstants.{MAX_TRAINS}
use Rattle.rl_base.specs.declared.job.Verb.{Verb}
use Rattle.rl_base.specs.declared.job.Verb.TheVariants.{Reserve, Release, Lock, Unlock}
use Rattle.rl_base.specs.declared.kind.Side.{Side}
use Rattle.rl_base.specs.declared.kind.Side.TheVariants.{Left, Right}
use Rattle.rl_words.specs.declared.lock.LockWord.{LockWord}
use Rattle.rl_words.specs.declared.lock.LockWord.TheVariants.{Free, Asked, Moving, Moved, Locked}
use Rattle.rl_words.specs.declared.lock.Path.{Path}
use Rattle.rl_words.specs.declared.mail.Letter.{Letter}
use Rattle.rl_words.specs.declared.mail.MailWord.{MailWord}
use Rattle.rl_words.specs.declared.mail.MailWord.TheVariants.{Empty, Ask, Taken, Yes, No}
use Rattle.rl_words.specs.declared.resv.ResvWord.{ResvWord}
use Rattle.rl_words.specs.declared.run.RunWord.{RunWord}
use Rattle.rl_words.specs.declared.run.RunWord.TheVariants.{Clear, Go, Across}
use Rattle.rl_words.specs.declared.sense.SenseWord.{SenseWord}
use Rattle.rl_words.specs.declared.sense.SenseWord.TheVariants.{Quiet, Head, Tail}
use Rattle.rl_words.specs.Fields.{field}
use Rattle.rl_words.specs.Lock.{FitsPath, FitsLock, packed_path, packed_lock}
use Rattle.rl_words.specs.Mail.{FitsArms, FitsLetter, IsRefusable, FitsMail, verb_code, packed_letter, packed_mail}
use Rattle.rl_words.specs.Readings.{only_if, train_id, arm_id, arm_at, resv_at, fits_arm, fits_resv, read_resv, path_at, lock_tagged, lock_at, fits_path, fits_lock, read_lock, verb_at, letter_at, mail_tagged, mail_at, fits_arms, fits_letter, is_refusable, fits_mail, read_mail, run_tagged, run_at, fits_run, read_run, sense_tagged, sense_at, fits_sense, read_sense}
use Rattle.rl_words.specs.Resv.{FitsArm, FitsResv, arm_code, packed_resv}
use Rattle.rl_words.specs.Run.{FitsRun, packed_run}
use Rattle.rl_words.specs.Sense.{FitsSense, packed_sense}
use Rattle.rl_words.proofs.MailLemmas.{verb_code-lt}
use Rattle.rl_words.proofs.ResvLemmas.{arm_code-lt}

-- what passes both tests is read
kept : {A : Type 0} (fits : A → Bool) (packed : A → ℕ) (found v : A) (n : ℕ) → found ≡ v → fits v ≡ true → packed v ≡ n
    → only_if (fits found && packed found == n) found ≡ Some v
kept fits packed found v n same fit e =
    let ok : (fits found && packed found == n) ≡ true = and_from _ _ (ap fits same ∙ fit) (eq-eqb (packed found) n (ap packed same ∙ e)) in
    cond-true _ (Some found) None ok ∙ ap Some same

-- and nothing else
only : {A : Type 0} (fits : A → Bool) (packed : A → ℕ) (found v : A) (n : ℕ) → only_if (fits found && packed found == n) found ≡ Some v
    → (fits v ≡ true) × (packed v ≡ n)
only fits packed found v n e =
    let both = cond_some _ found v e in
    let tests = and_parts _ _ both.0 in
    (ap fits (sym both.1) ∙ tests.0, ap packed (sym both.1) ∙ eqb-true _ n tests.1)

train-same : (n : ℕ) (t : TrainId) → n ≡ t.0 → train_id n ≡ t
train-same n t e = ap train_id e

-- the reservations
fits_arm-true : (arm : Option TrainId) → fits_arm arm ≡ true → FitsArm arm
fits_arm-true None h = tt
fits_arm-true (Some t) h = ltb-true t.0 MAX_TRAINS h

fits_arm_from : (arm : Option TrainId) → FitsArm arm → fits_arm arm ≡ true
fits_arm_from None h = refl
fits_arm_from (Some t) h = lt-ltb t.0 MAX_TRAINS h

arm_at-code : (n : ℕ) (arm : Option TrainId) → n ≡ arm_code arm → arm_at n ≡ arm
arm_at-code zero None e = refl
arm_at-code zero (Some t) e = absurd (omega arith)
arm_at-code (suc n) None e = absurd (omega arith)
arm_at-code (suc n) (Some t) e = let same : n ≡ t.0 = omega arith in ap Some (train-same n t same)

resv_parts : (a b c d a' b' c' d' : Option TrainId) → a ≡ a' → b ≡ b' → c ≡ c' → d ≡ d'
    → (let made : ResvWord = record { arm0 = a; arm1 = b; arm2 = c; arm3 = d } in made) ≡ record { arm0 = a'; arm1 = b'; arm2 = c'; arm3 = d' }
resv_parts a b c d a' b' c' d' ea eb ec ed = cc

resv_at-packed : (w : ResvWord) → FitsResv w → resv_at (packed_resv w) ≡ w
resv_at-packed w fits =
    let c0 = arm_code-lt w.arm0 fits.arm0 in
    let c1 = arm_code-lt w.arm1 fits.arm1 in
    let c2 = arm_code-lt w.arm2 fits.arm2 in
    let c3 = arm_code-lt w.arm3 fits.arm3 in
    let n = packed_resv w in
    resv_parts _ _ _ _ w.arm0 w.arm1 w.arm2 w.arm3
    (arm_at-code (field n 0 6) w.arm0 (omega arith))
    (arm_at-code (field n 6 6) w.arm1 (omega arith))
    (arm_at-code (field n 12 6) w.arm2 (omega arith))
    (arm_at-code (field n 18 6) w.arm3 (omega arith))

fits_resv-true : (w : ResvWord) → fits_resv w ≡ true → FitsResv w
fits_resv-true w h =
    let h0 = and_parts _ _ h in
    let h1 = and_parts _ _ h0.1 in
    let h2 = and_parts _ _ h1.1 in
    record { arm0 = fits_arm-true _ h0.0; arm1 = fits_arm-true _ h1.0; arm2 = fits_arm-true _ h2.0; arm3 = fits_arm-true _ h2.1 }

fits_resv_from : (w : ResvWord) → FitsResv w → fits_resv w ≡ true
fits_resv_from w f = and_from _ _ (fits_arm_from _ f.arm0)
    (and_from _ _ (fits_arm_from _ f.arm1) (and_from _ _ (fits_arm_from _ f.arm2) (fits_arm_from _ f.arm3)))

pub read_resv-packed : (v : ResvWord) → FitsResv v → read_resv (packed_resv v) ≡ Some v
unfolding read_resv
read_resv-packed v fits = kept fits_resv packed_resv (resv_at (packed_resv v)) v (packed_resv v) (resv_at-packed v fits) (fits_resv_from v fits) refl

pub read_resv_only : (n : ℕ) (v : ResvWord) → read_resv n ≡ Some v → FitsResv v × (packed_resv v ≡ n)
unfolding read_resv
read_resv_only n v e = let both = only fits_resv packed_resv (resv_at n) v n e in (fits_resv-true v both.0, both.1)

-- the lock
fits_path-true : (p : Path) → fits_path p ≡ true → FitsPath p
fits_path-true p h =
    let h0 = and_parts _ _ h in
    let h1 = and_parts _ _ h0.1 in
    let h2 = and_parts _ _ h1.1 in
    record { train = ltb-true _ _ h0.0; x = ltb-true _ _ h1.0; y = ltb-true _ _ h2.0; apart = eqb-false _ _ (not-true _ h2.1) }

fits_path_from : (p : Path) → FitsPath p → fits_path p ≡ true
fits_path_from p f = and_from _ _ (lt-ltb _ _ f.train) (and_from _ _ (lt-ltb _ _ f.x) (and_from _ _ (lt-ltb _ _ f.y) (not_from_false _ (ne_eqb _ _ f.apart))))

path_parts : (t x y : ℕ) (p : Path) → t ≡ p.train.0 → x ≡ p.x.0 → y ≡ p.y.0
    → (let made : Path = record { train = train_id t; x = arm_id x; y = arm_id y } in made) ≡ p
path_parts t x y p et ex ey = rw (et, ex, ey) refl

-- a path in the bits above a tag
path_at-packed : (tag : ℕ) (p : Path) → tag < 8 → FitsPath p → path_at (tag + packed_path p) ≡ p
path_at-packed tag p small f = path_parts _ _ _ p (omega arith) (omega arith) (omega arith)

lock_same : (tag : ℕ) (side : Side) (p q : Path) (n : ℕ) → n ≡ tag → p ≡ q → lock_tagged n side p ≡ lock_tagged tag side q
lock_same tag side p q n e f = cc

lock_at-packed : (v : LockWord) → FitsLock v → lock_at (packed_lock v) ≡ v
lock_at-packed (Free Left) f = refl
lock_at-packed (Free Right) f = refl
lock_at-packed (Asked p) f = lock_same 1 _ _ p _ (omega arith) (path_at-packed 1 p (lit< tt) f)
lock_at-packed (Moving p) f = lock_same 2 _ _ p _ (omega arith) (path_at-packed 2 p (lit< tt) f)
lock_at-packed (Moved p) f = lock_same 3 _ _ p _ (omega arith) (path_at-packed 3 p (lit< tt) f)
lock_at-packed (Locked p) f = lock_same 4 _ _ p _ (omega arith) (path_at-packed 4 p (lit< tt) f)

fits_lock-true : (v : LockWord) → fits_lock v ≡ true → FitsLock v
fits_lock-true (Free side) h = tt
fits_lock-true (Asked p) h = fits_path-true p h
fits_lock-true (Moving p) h = fits_path-true p h
fits_lock-true (Moved p) h = fits_path-true p h
fits_lock-true (Locked p) h = fits_path-true p h

fits_lock_from : (v : LockWord) → FitsLock v → fits_lock v ≡ true
fits_lock_from (Free side) h = refl
fits_lock_from (Asked p) h = fits_path_from p h
fits_lock_from (Moving p) h = fits_path_from p h
fits_lock_from (Moved p) h = fits_path_from p h
fits_lock_from (Locked p) h = fits_path_from p h

pub read_lock-packed : (v : LockWord) → FitsLock v → read_lock (packed_lock v) ≡ Some v
unfolding read_lock
read_lock-packed v fits = kept fits_lock packed_lock (lock_at (packed_lock v)) v (packed_lock v) (lock_at-packed v fits) (fits_lock_from v fits) refl

pub read_lock_only : (n : ℕ) (v : LockWord) → read_lock n ≡ Some v → FitsLock v × (packed_lock v ≡ n)
unfolding read_lock
read_lock_only n v e = let both = only fits_lock packed_lock (lock_at n) v n e in (fits_lock-true v both.0, both.1)

-- the mail
fits_arms-true : (verb : Verb) (x y : ℕ) → fits_arms verb x y ≡ true → FitsArms verb x y
fits_arms-true Reserve x y h = eqb-true y 0 h
fits_arms-true Release x y h = eqb-true y 0 h
fits_arms-true Lock x y h = eqb-false x y (not-true _ h)
fits_arms-true Unlock x y h = eqb-false x y (not-true _ h)

fits_arms_from : (verb : Verb) (x y : ℕ) → FitsArms verb x y → fits_arms verb x y ≡ true
fits_arms_from Reserve x y h = eq-eqb y 0 h
fits_arms_from Release x y h = eq-eqb y 0 h
fits_arms_from Lock x y h = not_from_false _ (ne_eqb x y h)
fits_arms_from Unlock x y h = not_from_false _ (ne_eqb x y h)

fits_letter-true : (l : Letter) → fits_letter l ≡ true → FitsLetter l
fits_letter-true l h =
    let h0 = and_parts _ _ h in
    let h1 = and_parts _ _ h0.1 in
    let h2 = and_parts _ _ h1.1 in
    record { to = ltb-true _ _ h0.0; x = ltb-true _ _ h1.0; y = ltb-true _ _ h2.0; arms = fits_arms-true l.verb l.x.0 l.y.0 h2.1 }

fits_letter_from : (l : Letter) → FitsLetter l → fits_letter l ≡ true
fits_letter_from l f = and_from _ _ (lt-ltb _ _ f.to) (and_from _ _ (lt-ltb _ _ f.x) (and_from _ _ (lt-ltb _ _ f.y) (fits_arms_from l.verb l.x.0 l.y.0 f.arms)))

pub is_refusable-true : (verb : Verb) → is_refusable verb ≡ true → IsRefusable verb
is_refusable-true Reserve h = tt
is_refusable-true Release h = cc
is_refusable-true Lock h = tt
is_refusable-true Unlock h = cc

is_refusable_from : (verb : Verb) → IsRefusable verb → is_refusable verb ≡ true
is_refusable_from Reserve h = refl
is_refusable_from Release h = absurd h
is_refusable_from Lock h = refl
is_refusable_from Unlock h = absurd h

verb_at-code : (n : ℕ) (verb : Verb) → n ≡ verb_code verb → verb_at n ≡ verb
verb_at-code n Reserve e = ap verb_at e
verb_at-code n Release e = ap verb_at e
verb_at-code n Lock e = ap verb_at e
verb_at-code n Unlock e = ap verb_at e

letter_parts : (b x y : ℕ) (verb : Verb) (l : Letter) → b ≡ l.to.0 → verb ≡ l.verb → x ≡ l.x.0 → y ≡ l.y.0
    → (let made : Letter = record { to = record { 0 = b }; verb = verb; x = arm_id x; y = arm_id y } in made) ≡ l
letter_parts b x y verb l eb ev ex ey = rw (eb, ev, ex, ey) refl

-- a letter in the bits between a tag and a holder
letter_at-packed : (tag above : ℕ) (l : Letter) → tag < 8 → FitsLetter l → letter_at (tag + packed_letter l + above * 2 ^ 16) ≡ l
letter_at-packed tag above l small f =
    let verb = verb_code-lt l.verb in
    letter_parts _ _ _ _ l (omega arith) (verb_at-code _ l.verb (omega arith)) (omega arith) (omega arith)

mail_same : (tag n : ℕ) (l m : Letter) (t u : TrainId) → n ≡ tag → l ≡ m → t ≡ u → mail_tagged n l t ≡ mail_tagged tag m u
mail_same tag n l m t u e f g = cc

mail_one : (tag : ℕ) (l : Letter) → tag < 8 → FitsLetter l → mail_at (tag + packed_letter l) ≡ mail_tagged tag l (train_id 0)
mail_one tag l small f =
    let verb = verb_code-lt l.verb in
    let n = tag + packed_letter l in
    let none : tag + packed_letter l + 0 * 2 ^ 16 ≡ n = omega arith in
    mail_same tag _ _ l _ (train_id 0) (omega arith) (ap letter_at (sym none) ∙ letter_at-packed tag 0 l small f) (ap train_id (omega arith))

mail_at-packed : (v : MailWord) → FitsMail v → mail_at (packed_mail v) ≡ v
mail_at-packed Empty f = refl
mail_at-packed (Ask l) f = mail_one 1 l (lit< tt) f
mail_at-packed (Taken l) f = mail_one 2 l (lit< tt) f
mail_at-packed (Yes l) f = mail_one 3 l (lit< tt) f
mail_at-packed (No l u) f =
    let verb = verb_code-lt l.verb in
    let letter = f.0 in
    let holder = f.2 in
    mail_same 4 _ _ l _ u (omega arith) (letter_at-packed 4 u.0 l (lit< tt) letter) (train-same _ u (omega arith))

fits_mail-true : (v : MailWord) → fits_mail v ≡ true → FitsMail v
fits_mail-true Empty h = tt
fits_mail-true (Ask l) h = fits_letter-true l h
fits_mail-true (Taken l) h = fits_letter-true l h
fits_mail-true (Yes l) h = fits_letter-true l h
fits_mail-true (No l u) h = let h0 = and_parts _ _ h in let h1 = and_parts _ _ h0.1 in
    (fits_letter-true l h0.0, is_refusable-true l.verb h1.0, ltb-true _ _ h1.1)

fits_mail_from : (v : MailWord) → FitsMail v → fits_mail v ≡ true
fits_mail_from Empty h = refl
fits_mail_from (Ask l) h = fits_letter_from l h
fits_mail_from (Taken l) h = fits_letter_from l h
fits_mail_from (Yes l) h = fits_letter_from l h
fits_mail_from (No l u) h = and_from _ _ (fits_letter_from l h.0) (and_from _ _ (is_refusable_from l.verb h.1) (lt-ltb _ _ h.2))

pub read_mail-packed : (v : MailWord) → FitsMail v → read_mail (packed_mail v) ≡ Some v
unfolding read_mail
read_mail-packed v fits = kept fits_mail packed_mail (mail_at (packed_mail v)) v (packed_mail v) (mail_at-packed v fits) (fits_mail_from v fits) refl

pub read_mail_only : (n : ℕ) (v : MailWord) → read_mail n ≡ Some v → FitsMail v × (packed_mail v ≡ n)
unfolding read_mail
read_mail_only n v e = let both = only fits_mail packed_mail (mail_at n) v n e in (fits_mail-true v both.0, both.1)

-- the run word
run_same : (tag n j k : ℕ) → n ≡ tag → j ≡ k → run_tagged n j ≡ run_tagged tag k
run_same tag n j k e f = cc

run_at-packed : (v : RunWord) → FitsRun v → run_at (packed_run v) ≡ v
run_at-packed (Clear k) f = run_same 0 _ _ k (omega arith) (omega arith)
run_at-packed (Go k) f = run_same 1 _ _ k (omega arith) (omega arith)
run_at-packed (Across k) f = run_same 2 _ _ k (omega arith) (omega arith)

fits_run-true : (v : RunWord) → fits_run v ≡ true → FitsRun v
fits_run-true (Clear k) h = leb-true _ _ h
fits_run-true (Go k) h = ltb-true _ _ h
fits_run-true (Across k) h = ltb-true _ _ h

fits_run_from : (v : RunWord) → FitsRun v → fits_run v ≡ true
fits_run_from (Clear k) h = le-leb _ _ h
fits_run_from (Go k) h = lt-ltb _ _ h
fits_run_from (Across k) h = lt-ltb _ _ h

pub read_run-packed : (v : RunWord) → FitsRun v → read_run (packed_run v) ≡ Some v
unfolding read_run
read_run-packed v fits = kept fits_run packed_run (run_at (packed_run v)) v (packed_run v) (run_at-packed v fits) (fits_run_from v fits) refl

pub read_run_only : (n : ℕ) (v : RunWord) → read_run n ≡ Some v → FitsRun v × (packed_run v ≡ n)
unfolding read_run
read_run_only n v e = let both = only fits_run packed_run (run_at n) v n e in (fits_run-true v both.0, both.1)

-- the sense word
sense_same : (tag n j k : ℕ) → n ≡ tag → j ≡ k → sense_tagged n j ≡ sense_tagged tag k
sense_same tag n j k e f = cc

sense_at-packed : (v : SenseWord) → FitsSense v → sense_at (packed_sense v) ≡ v
sense_at-packed (Quiet k) f = sense_same 0 _ _ k (omega arith) (omega arith)
sense_at-packed (Head k) f = sense_same 1 _ _ k (omega arith) (omega arith)
sense_at-packed (Tail k) f = sense_same 2 _ _ k (omega arith) (omega arith)

fits_sense-true : (v : SenseWord) → fits_sense v ≡ true → FitsSense v
fits_sense-true (Quiet k) h = leb-true _ _ h
fits_sense-true (Head k) h = ltb-true _ _ h
fits_sense-true (Tail k) h = ltb-true _ _ h

fits_sense_from : (v : SenseWord) → FitsSense v → fits_sense v ≡ true
fits_sense_from (Quiet k) h = le-leb _ _ h
fits_sense_from (Head k) h = lt-ltb _ _ h
fits_sense_from (Tail k) h = lt-ltb _ _ h

pub read_sense-packed : (v : SenseWord) → FitsSense v → read_sense (packed_sense v) ≡ Some v
unfolding read_sense
read_sense-packed v fits = kept fits_sense packed_sense (sense_at (packed_sense v)) v (packed_sense v) (sense_at-packed v fits) (fits_sense_from v fits) refl

pub read_sense_only : (n : ℕ) (v : SenseWord) → read_sense n ≡ Some v → FitsSense v × (packed_sense v ≡ n)
unfolding read_sense
read_sense_only n v e = let both = only fits_sense packed_sense (sense_at n) v n e in (fits_sense-true v both.0, both.1)

-- what has no value is none
none_of : {A : Type 0} (o : Option A) → ((v : A) → o ≡ Some v → ⊥) → None ≡ o
none_of None h = refl
none_of (Some v) h = absurd (h v refl)

-- a reader that finds exactly the fitting packed value reads what is said here
pub reads : {A : Type 0} (Fits : A → Type 0) (packed : A → ℕ) (read : ℕ → Option A) (n : ℕ) (r : Option A) → ((v : A) → Fits v → read (packed v) ≡ Some v)
    → ((v : A) → read n ≡ Some v → Fits v × (packed v ≡ n)) → IfSome r (λ v. Fits v × (packed v ≡ n)) → IfNone r ((v : A) → Fits v → packed v ≢ n) → r ≡ read n
reads Fits packed read n None back front some none = none_of (read n) (λ v e. let both = front v e in none v both.0 both.1)
reads Fits packed read n (Some v) back front some none = sym (ap read (sym some.1) ∙ back v some.0)
