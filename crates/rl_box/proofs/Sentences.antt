-- The function gives exactly the steps of the sentences.
use Rattle.std.proofs.Common.{◌≡◌, ◌≢◌, ℕ, ◌==◌, Bool, true, false, Option, Some, None, if◌then◌else◌, refl, sym, ap, subst, ◌∙◌}
use Rattle.std.proofs.lemmas.Bool.{and_parts, and_from, eqb-true, eqb-false, eq-eqb, ne_eqb}
use Rattle.std.proofs.lemmas.Option.{same_Some}
use Rattle.rl_base.specs.declared.ids.Arm.{Arm}
use Rattle.rl_base.specs.declared.ids.BoxId.{BoxId}
use Rattle.rl_base.specs.declared.ids.TrainId.{TrainId}
use Rattle.rl_base.specs.declared.job.Verb.{Verb}
use Rattle.rl_base.specs.declared.job.Verb.TheVariants as verbs
use Rattle.rl_words.specs.declared.lock.LockWord.{LockWord}
use Rattle.rl_words.specs.declared.lock.LockWord.TheVariants.{Free, Asked, Moving, Moved, Locked}
use Rattle.rl_words.specs.declared.lock.Path.{Path}
use Rattle.rl_words.specs.declared.mail.Letter.{Letter}
use Rattle.rl_words.specs.declared.mail.MailWord.{MailWord}
use Rattle.rl_words.specs.declared.mail.MailWord.TheVariants as mails
use Rattle.rl_words.specs.declared.resv.ResvWord.{ResvWord}
use Rattle.rl_words.specs.Mail.{same_letter, about_passage}
use Rattle.rl_words.specs.Readings.{is_refusable}
use Rattle.rl_words.specs.Resv.{arm_in, with_arm}
use Rattle.rl_words.specs.Word.{Word}
use Rattle.rl_words.specs.Word.Word.{Resv, Lock, Mail, Run, Sense}
use Rattle.rl_tables.specs.declared.table.BoxTable.{BoxTable}
use Rattle.rl_box.specs.declared.mind.Answer.{Answer}
use Rattle.rl_box.specs.declared.mind.Answer.TheVariants.{Yes, No}
use Rattle.rl_box.specs.declared.mind.BoxMind.{BoxMind}
use Rattle.rl_box.specs.declared.mind.Work.{Work}
use Rattle.rl_box.specs.declared.mind.Work.TheVariants.{Ready, Serve, Say}
use Rattle.rl_box.specs.Mind.{box_at}
use Rattle.rl_box.specs.Steps.{path_of, other_side, connects, BoxStep, same_train, same_path, answered, mail_turn, resv_turn, on_resv, lock_turn, points_turn}
use Rattle.rl_box.specs.Steps.{on_lock, box_on}
use Rattle.rl_box.specs.Steps.BoxStep.{take, reserve, refuse, release, lock, ask, moved, unlock, say_yes, say_refused, say_barred, busy}
use Rattle.rl_words.proofs.PackedSteps.{guarded, unless, mapped}

-- what compares letters, as a law of the words says
abbrev pub ComparesLetters : Type 0
ComparesLetters = (a c : Letter) → same_letter a c ≡ true → a ≡ c

box_same : (c d : BoxId) → c.0 ≡ d.0 → c ≡ d
box_same c d e = let id : ℕ → BoxId = λ n. record { 0 = n } in ap id e

train_same : (t u : TrainId) → same_train t u ≡ true → t ≡ u
train_same t u e = let id : ℕ → TrainId = λ n. record { 0 = n } in ap id (eqb-true t.0 u.0 e)

train_other : (t u : TrainId) → same_train t u ≡ false → t ≢ u
train_other t u e s = eqb-false t.0 u.0 e (ap (λ (v : TrainId). v.0) s)

arm_same : (x y : Arm) → x.0 ≡ y.0 → x ≡ y
arm_same x y e = let id : ℕ → Arm = λ n. record { 0 = n } in ap id e

path_parts : (t u : TrainId) (x x' y y' : Arm) → t ≡ u → x ≡ x' → y ≡ y'
    → (let made : Path = record { train = t; x = x; y = y } in made) ≡ record { train = u; x = x'; y = y' }
path_parts t u x x' y y' et ex ey = cc

path_same : (p q : Path) → same_path p q ≡ true → p ≡ q
path_same p q h =
    let h0 = and_parts _ _ h in
    let h1 = and_parts _ _ h0.1 in
    path_parts p.train q.train p.x q.x p.y q.y (train_same p.train q.train h0.0) (arm_same p.x q.x (eqb-true _ _ h1.0)) (arm_same p.y q.y (eqb-true _ _ h1.1))

-- From the function to the sentences, word by word.

resv_front : (b : BoxTable) (t : TrainId) (l : Letter) (waiting : Option Path) (w : ResvWord) (verb : Verb) (arm : Option TrainId) (r : ResvWord × Answer)
    → l.verb ≡ verb → arm_in w l.x.0 ≡ arm → resv_turn t l verb w arm ≡ Some r
    → BoxStep b (box_at (Serve t l) waiting) (Resv b.number w) (Resv b.number r.0) (box_at (Say t l r.1) waiting)
resv_front b t l waiting w verbs.Reserve None r v a e =
    let to : ResvWord × Answer → Type 0 = λ q. BoxStep b (box_at (Serve t l) waiting) (Resv b.number w) (Resv b.number q.0) (box_at (Say t l q.1) waiting) in
    subst to (same_Some _ r e) (reserve t l waiting w v a)
resv_front b t l waiting w verbs.Reserve (Some u) r v a e =
    let to : ResvWord × Answer → Type 0 = λ q. BoxStep b (box_at (Serve t l) waiting) (Resv b.number w) (Resv b.number q.0) (box_at (Say t l q.1) waiting) in
    let other = unless _ _ _ e in
    subst to (same_Some _ r other.1) (refuse t u l waiting w v a (train_other u t other.0))
resv_front b t l waiting w verbs.Release None r v a e = absurd (cc)
resv_front b t l waiting w verbs.Release (Some u) r v a e =
    let to : ResvWord × Answer → Type 0 = λ q. BoxStep b (box_at (Serve t l) waiting) (Resv b.number w) (Resv b.number q.0) (box_at (Say t l q.1) waiting) in
    let own = guarded _ _ _ e in
    subst to (same_Some _ r own.1) (release t l waiting w v (a ∙ ap Some (train_same u t own.0)))
resv_front b t l waiting w verbs.Lock arm r v a e = absurd (cc)
resv_front b t l waiting w verbs.Unlock arm r v a e = absurd (cc)

lock_front : (b : BoxTable) (t : TrainId) (l : Letter) (verb : Verb) (v : LockWord) (r : LockWord × BoxMind) → l.verb ≡ verb → lock_turn b t l verb v ≡ Some r
    → BoxStep b (box_at (Serve t l) None) (Lock b.number v) (Lock b.number r.0) r.1
lock_front b t l verbs.Reserve v r is e = absurd (cc)
lock_front b t l verbs.Release v r is e = absurd (cc)
lock_front b t l verbs.Lock (Free side) r is e = free_front (connects b l side) (connects b l (other_side side)) refl refl e where
  to : LockWord × BoxMind → Type 0
  to q = BoxStep b (box_at (Serve t l) None) (Lock b.number (Free side)) (Lock b.number q.0) q.1

  free_front : (here there : Bool) → connects b l side ≡ here → connects b l (other_side side) ≡ there
      → (if here then Some (Locked (path_of t l), box_at (Say t l Yes) None) else
      (if there then Some (Asked (path_of t l), box_at Ready (Some (path_of t l))) else None)) ≡ Some r
      → BoxStep b (box_at (Serve t l) None) (Lock b.number (Free side)) (Lock b.number r.0) r.1
  free_front true there h n f =
      subst (λ q. BoxStep b (box_at (Serve t l) None) (Lock b.number (Free side)) (Lock b.number q.0) q.1) (same_Some _ r f) (lock t l side is h)
  free_front false true h n f =
      subst (λ q. BoxStep b (box_at (Serve t l) None) (Lock b.number (Free side)) (Lock b.number q.0) q.1) (same_Some _ r f) (ask t l side is h n)
  free_front false false h n f = absurd (cc)
lock_front b t l verbs.Lock (Asked p) r is e = absurd (cc)
lock_front b t l verbs.Lock (Moving p) r is e = absurd (cc)
lock_front b t l verbs.Lock (Moved p) r is e = absurd (cc)
lock_front b t l verbs.Lock (Locked p) r is e =
    let to : LockWord × BoxMind → Type 0 = λ q. BoxStep b (box_at (Serve t l) None) (Lock b.number (Locked p)) (Lock b.number q.0) q.1 in
    let other = unless _ _ _ e in
    subst to (same_Some _ r other.1) (busy t l p is (train_other p.train t other.0))
lock_front b t l verbs.Unlock (Free side) r is e = absurd (cc)
lock_front b t l verbs.Unlock (Asked p) r is e = absurd (cc)
lock_front b t l verbs.Unlock (Moving p) r is e = absurd (cc)
lock_front b t l verbs.Unlock (Moved p) r is e = absurd (cc)
lock_front b t l verbs.Unlock (Locked p) r is e =
    let own = guarded _ _ _ e in
    let m = mapped _ _ _ own.1 in
    let same : path_of t l ≡ p = sym (path_same p (path_of t l) own.0) in
    let after : LockWord × BoxMind → Type 0 = λ q. BoxStep b (box_at (Serve t l) None) (Lock b.number (Locked (path_of t l))) (Lock b.number q.0) q.1 in
    let before : Path → Type 0 = λ q. BoxStep b (box_at (Serve t l) None) (Lock b.number (Locked q)) (Lock b.number r.0) r.1 in
    subst before same (subst after m.2 (unlock t l m.0 is m.1))

points_front : (b : BoxTable) (p : Path) (v : LockWord) (r : LockWord × BoxMind) → points_turn b p v ≡ Some r
    → BoxStep b (box_at Ready (Some p)) (Lock b.number v) (Lock b.number r.0) r.1
points_front b p (Free side) r e = absurd (cc)
points_front b p (Asked q) r e = absurd (cc)
points_front b p (Moving q) r e = absurd (cc)
points_front b p (Moved q) r e =
    let own = guarded _ _ _ e in
    let same : p ≡ q = sym (path_same q p own.0) in
    let after : LockWord × BoxMind → Type 0 = λ q. BoxStep b (box_at Ready (Some p)) (Lock b.number (Moved p)) (Lock b.number q.0) q.1 in
    let before : Path → Type 0 = λ q. BoxStep b (box_at Ready (Some p)) (Lock b.number (Moved q)) (Lock b.number r.0) r.1 in
    subst before same (subst after (same_Some _ r own.1) (moved p))
points_front b p (Locked q) r e = absurd (cc)

on_lock_front : (b : BoxTable) (work : Work) (waiting : Option Path) (v : LockWord) (r : LockWord × BoxMind) → on_lock b work waiting v ≡ Some r
    → BoxStep b (box_at work waiting) (Lock b.number v) (Lock b.number r.0) r.1
on_lock_front b Ready None v r e = absurd (cc)
on_lock_front b Ready (Some p) v r e = points_front b p v r e
on_lock_front b (Serve t l) None v r e = lock_front b t l l.verb v r refl e
on_lock_front b (Serve t l) (Some p) v r e = absurd (cc)
on_lock_front b (Say t l answer) waiting v r e = absurd (cc)

on_resv_front : (b : BoxTable) (work : Work) (waiting : Option Path) (w : ResvWord) (r : ResvWord × Work) → on_resv work w ≡ Some r
    → BoxStep b (box_at work waiting) (Resv b.number w) (Resv b.number r.0) (box_at r.1 waiting)
on_resv_front b Ready waiting w r e = absurd (cc)
on_resv_front b (Serve t l) waiting w r e =
    let m = mapped _ _ _ e in
    let to : ResvWord × Work → Type 0 = λ q. BoxStep b (box_at (Serve t l) waiting) (Resv b.number w) (Resv b.number q.0) (box_at q.1 waiting) in
    subst to m.2 (resv_front b t l waiting w l.verb (arm_in w l.x.0) m.0 refl refl m.1)
on_resv_front b (Say t l answer) waiting w r e = absurd (cc)

refusal : (b : BoxTable) (t u : TrainId) (l : Letter) (waiting : Option Path) (verb : Verb) → l.verb ≡ verb → is_refusable verb ≡ true
    → BoxStep b (box_at (Say t l (No u)) waiting) (Mail t (mails.Taken l)) (Mail t (mails.No l u)) (box_at Ready waiting)
refusal b t u l waiting verbs.Reserve is e = say_refused t u l waiting is
refusal b t u l waiting verbs.Release is e = absurd (cc)
refusal b t u l waiting verbs.Lock is e = say_barred t u l waiting is
refusal b t u l waiting verbs.Unlock is e = absurd (cc)

answered_front : (b : BoxTable) (t : TrainId) (l : Letter) (answer : Answer) (waiting : Option Path) (v : MailWord) → answered l answer ≡ Some v
    → BoxStep b (box_at (Say t l answer) waiting) (Mail t (mails.Taken l)) (Mail t v) (box_at Ready waiting)
answered_front b t l Yes waiting v e =
    let to : MailWord → Type 0 = λ q. BoxStep b (box_at (Say t l Yes) waiting) (Mail t (mails.Taken l)) (Mail t q) (box_at Ready waiting) in
    subst to (same_Some _ v e) (say_yes t l waiting)
answered_front b t l (No u) waiting v e =
    let to : MailWord → Type 0 = λ q. BoxStep b (box_at (Say t l (No u)) waiting) (Mail t (mails.Taken l)) (Mail t q) (box_at Ready waiting) in
    let may = guarded _ _ _ e in
    subst to (same_Some _ v may.1) (refusal b t u l waiting l.verb refl may.0)

mail_front : ComparesLetters → (b : BoxTable) (t : TrainId) (work : Work) (waiting : Option Path) (v : MailWord) (r : MailWord × Work)
    → mail_turn b t work v ≡ Some r → BoxStep b (box_at work waiting) (Mail t v) (Mail t r.0) (box_at r.1 waiting)
mail_front same b t Ready waiting mails.Empty r e = absurd (cc)
mail_front same b t Ready waiting (mails.Ask l) r e =
    let to : MailWord × Work → Type 0 = λ q. BoxStep b (box_at Ready waiting) (Mail t (mails.Ask l)) (Mail t q.0) (box_at q.1 waiting) in
    let own = guarded _ _ _ e in
    let tests = and_parts _ _ own.0 in
    subst to (same_Some _ r own.1) (take t l waiting (box_same l.to b.number (eqb-true _ _ tests.0)) tests.1)
mail_front same b t Ready waiting (mails.Taken l) r e = absurd (cc)
mail_front same b t Ready waiting (mails.Yes l) r e = absurd (cc)
mail_front same b t Ready waiting (mails.No l u) r e = absurd (cc)
mail_front same b t (Serve to l) waiting v r e = absurd (cc)
mail_front same b t (Say to l answer) waiting mails.Empty r e = absurd (cc)
mail_front same b t (Say to l answer) waiting (mails.Ask asked) r e = absurd (cc)
mail_front same b t (Say to l answer) waiting (mails.Taken asked) r e =
    let own = guarded _ _ _ e in
    let tests = and_parts _ _ own.0 in
    let m = mapped _ _ _ own.1 in
    let train : to ≡ t = sym (train_same t to tests.0) in
    let letter : l ≡ asked = sym (same asked l tests.1) in
    let after : MailWord × Work → Type 0 = λ q. BoxStep b (box_at (Say to l answer) waiting) (Mail to (mails.Taken l)) (Mail to q.0) (box_at q.1 waiting) in
    let for : TrainId → Type 0 = λ u. BoxStep b (box_at (Say to l answer) waiting) (Mail u (mails.Taken l)) (Mail u r.0) (box_at r.1 waiting) in
    let about : Letter → Type 0 = λ k. BoxStep b (box_at (Say to l answer) waiting) (Mail t (mails.Taken k)) (Mail t r.0) (box_at r.1 waiting) in
    subst about letter (subst for train (subst after m.2 (answered_front b to l answer waiting m.0 m.1)))
mail_front same b t (Say to l answer) waiting (mails.Yes asked) r e = absurd (cc)
mail_front same b t (Say to l answer) waiting (mails.No asked u) r e = absurd (cc)

front_parts : ComparesLetters → (b : BoxTable) (work : Work) (waiting : Option Path) (word : Word) (r : Word × BoxMind)
    → box_on b (box_at work waiting) word ≡ Some r → BoxStep b (box_at work waiting) word r.0 r.1
front_parts same b work waiting (Resv c v) r e =
    let own = guarded _ _ _ e in
    let m = mapped _ _ _ own.1 in
    let place : b.number ≡ c = sym (box_same c b.number (eqb-true _ _ own.0)) in
    let at : BoxId → Type 0 = λ d. BoxStep b (box_at work waiting) (Resv d v) (Resv d m.0.0) (box_at m.0.1 waiting) in
    let to : Word × BoxMind → Type 0 = λ q. BoxStep b (box_at work waiting) (Resv c v) q.0 q.1 in
    subst to m.2 (subst at place (on_resv_front b work waiting v m.0 m.1))
front_parts same b work waiting (Lock c v) r e =
    let own = guarded _ _ _ e in
    let m = mapped _ _ _ own.1 in
    let place : b.number ≡ c = sym (box_same c b.number (eqb-true _ _ own.0)) in
    let at : BoxId → Type 0 = λ d. BoxStep b (box_at work waiting) (Lock d v) (Lock d m.0.0) m.0.1 in
    let to : Word × BoxMind → Type 0 = λ q. BoxStep b (box_at work waiting) (Lock c v) q.0 q.1 in
    subst to m.2 (subst at place (on_lock_front b work waiting v m.0 m.1))
front_parts same b work waiting (Mail t v) r e =
    let m = mapped _ _ _ e in
    let to : Word × BoxMind → Type 0 = λ q. BoxStep b (box_at work waiting) (Mail t v) q.0 q.1 in
    subst to m.2 (mail_front same b t work waiting v m.0 m.1)
front_parts same b work waiting (Run t v) r e = absurd (cc)
front_parts same b work waiting (Sense t v) r e = absurd (cc)

pub box_front : ComparesLetters → (b : BoxTable) (mind : BoxMind) (word next : Word) (after : BoxMind) → box_on b mind word ≡ Some (next, after)
    → BoxStep b mind word next after
box_front same b mind word next after e = front_parts same b mind.work mind.waiting word (next, after) e

-- From the sentences to the function, line by line.
abbrev pub ComparesItself : Type 0
ComparesItself = (a : Letter) → same_letter a a ≡ true

itself : (n : ℕ) → (n == n) ≡ true
itself n = eq-eqb n n refl

other_train : (t u : TrainId) → t ≢ u → same_train t u ≡ false
other_train t u apart = ne_eqb t.0 u.0 (λ e. apart (let id : ℕ → TrainId = λ n. record { 0 = n } in ap id e))

path_itself : (p : Path) → same_path p p ≡ true
path_itself p = and_from (p.train.0 == p.train.0) _ (itself p.train.0) (and_from (p.x.0 == p.x.0) (p.y.0 == p.y.0) (itself p.x.0) (itself p.y.0))

resv_back : (b : BoxTable) (work : Work) (waiting : Option Path) (w : ResvWord) (r : ResvWord × Work) → on_resv work w ≡ Some r
    → box_on b (box_at work waiting) (Resv b.number w) ≡ Some (Resv b.number r.0, box_at r.1 waiting)
resv_back b work waiting w r e = rw (itself b.number.0, e) refl

lock_back : (b : BoxTable) (work : Work) (waiting : Option Path) (v : LockWord) (r : LockWord × BoxMind) → on_lock b work waiting v ≡ Some r
    → box_on b (box_at work waiting) (Lock b.number v) ≡ Some (Lock b.number r.0, r.1)
lock_back b work waiting v r e = rw (itself b.number.0, e) refl

mail_back : (b : BoxTable) (t : TrainId) (work : Work) (waiting : Option Path) (v : MailWord) (r : MailWord × Work) → mail_turn b t work v ≡ Some r
    → box_on b (box_at work waiting) (Mail t v) ≡ Some (Mail t r.0, box_at r.1 waiting)
mail_back b t work waiting v r e = rw e refl

-- the box says what it has to say
say_back : ComparesItself → (b : BoxTable) (t : TrainId) (l : Letter) (answer : Answer) (v : MailWord) → answered l answer ≡ Some v
    → mail_turn b t (Say t l answer) (mails.Taken l) ≡ Some (v, Ready)
say_back same b t l answer v e =
    let letter = same l in
    rw (itself t.0, letter, e) refl

pub box_back : ComparesItself → (b : BoxTable) (mind : BoxMind) (word next : Word) (after : BoxMind) → BoxStep b mind word next after
    → box_on b mind word ≡ Some (next, after)
box_back same b _ _ _ _ (take t l waiting to has) =
    let here : (l.to.0 == b.number.0) ≡ true = eq-eqb l.to.0 b.number.0 (ap (λ (c : BoxId). c.0) to) in
    mail_back b t Ready waiting (mails.Ask l) (mails.Taken l, Serve t l) (rw (here, has) refl)
box_back same b _ _ _ _ (reserve t l waiting w is free) = resv_back b (Serve t l) waiting w (with_arm w l.x.0 (Some t), Say t l Yes) (rw (is, free) refl)
box_back same b _ _ _ _ (refuse t u l waiting w is held other) =
    let not = other_train u t other in
    resv_back b (Serve t l) waiting w (w, Say t l (No u)) (rw (is, held, not) refl)
box_back same b _ _ _ _ (release t l waiting w is held) =
    resv_back b (Serve t l) waiting w (with_arm w l.x.0 None, Say t l Yes) (rw (is, held, itself t.0) refl)
box_back same b _ _ _ _ (lock t l side is joins) =
    lock_back b (Serve t l) None (Free side) (Locked (path_of t l), box_at (Say t l Yes) None) (rw (is, joins) refl)
box_back same b _ _ _ _ (ask t l side is here there) =
    lock_back b (Serve t l) None (Free side) (Asked (path_of t l), box_at Ready (Some (path_of t l))) (rw (is, here, there) refl)
box_back same b _ _ _ _ (moved p) =
    let own = path_itself p in
    lock_back b Ready (Some p) (Moved p) (Locked p, box_at (Say p.train (about_passage b.number verbs.Lock p.x p.y) Yes) None) (rw own refl)
box_back same b _ _ _ _ (unlock t l side is joins) =
    let own = path_itself (path_of t l) in
    lock_back b (Serve t l) None (Locked (path_of t l)) (Free side, box_at (Say t l Yes) None) (rw (is, own, joins) refl)
box_back same b _ _ _ _ (say_yes t l waiting) =
    mail_back b t (Say t l Yes) waiting (mails.Taken l) (mails.Yes l, Ready) (say_back same b t l Yes (mails.Yes l) refl)
box_back same b _ _ _ _ (say_refused t u l waiting is) =
    mail_back b t (Say t l (No u)) waiting (mails.Taken l) (mails.No l u, Ready) (say_back same b t l (No u) (mails.No l u) (rw is refl))
box_back same b _ _ _ _ (say_barred t u l waiting is) =
    mail_back b t (Say t l (No u)) waiting (mails.Taken l) (mails.No l u, Ready) (say_back same b t l (No u) (mails.No l u) (rw is refl))
box_back same b _ _ _ _ (busy t l p is other) =
    let not = other_train p.train t other in
    lock_back b (Serve t l) None (Locked p) (Locked p, box_at (Say t l (No p.train)) None) (rw (is, not) refl)
