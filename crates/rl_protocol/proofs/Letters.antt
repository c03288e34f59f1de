-- What a letter of the job table names: arms that are there, and for a lock a passage that its box can connect.
use Rattle.std.proofs.Common.{◌≡◌, ◌≢◌, ℕ, ◌+◌, ◌<◌, ◌==◌, Bool, true, false, cond, ◌&&◌, ◌||◌, Option, Some, refl, sym, ap, subst, ◌∙◌, arith}
use Rattle.std.specs.Prelude.{is_some, option_map}
use Rattle.std.proofs.lemmas.Bool.{false≢true, cases_Bool}
use Rattle.std.proofs.lemmas.Bool.Decides.{nat_tests}
use Rattle.rl_base.specs.declared.job.Job.{Job}
use Rattle.rl_base.specs.declared.job.Job.TheVariants as jobs
use Rattle.rl_base.specs.declared.job.Verb.{Verb}
use Rattle.rl_base.specs.declared.job.Verb.TheVariants as verbs
use Rattle.rl_words.specs.declared.mail.Letter.{Letter}
use Rattle.rl_words.specs.Mail.{about_arm}
use Rattle.rl_words.proofs.PackedSteps.{mapped}
use Rattle.rl_tables.specs.declared.table.NextRow.{NextRow}
use Rattle.rl_tables.specs.declared.table.StepRow.{StepRow}
use Rattle.rl_protocol.specs.Line.{Line, IsStepOf, IsConsistent}
use Rattle.rl_train.specs.declared.mind.TrainMind.{TrainMind}
use Rattle.rl_train.specs.Jobs.{looks_ahead, at, letter, has_passed, holds_at, locks_at, is_near, is_pass}
use Rattle.rl_protocol.specs.Minds.{letter_of}
use Rattle.rl_protocol.specs.Held.{job_holds}
use Rattle.rl_protocol.specs.Agreement.{place_of}

-- the places of a row are ends of its segments, and so arms
pub here_at : (line : Line) (t k : ℕ) → IsStepOf line t k (line.row t k) → let row = line.row t k in
    (line.ends t k row.b.0 row.x.0 ≡ true) × (line.ends t k row.a.0 row.a_arm.0 ≡ true)
here_at line t k is = let row = line.row t k in (grind (arith, nat_tests, is.here row.b.0 row.x.0), grind (arith, nat_tests, is.here row.a.0 row.a_arm.0))

pub ahead_at : (line : Line) (t k : ℕ) → IsStepOf line t k (line.row t k) → let row = line.row t k in
    (line.ends t (k + 1) row.b.0 row.y.0 ≡ true) × (line.ends t (k + 1) row.c.0 row.c_arm.0 ≡ true)
ahead_at line t k is = let row = line.row t k in (grind (arith, nat_tests, is.ahead row.b.0 row.y.0), grind (arith, nat_tests, is.ahead row.c.0 row.c_arm.0))

-- the row after one that looks ahead is right too
pub row_after : (line : Line) (t k : ℕ) (n : NextRow) → IsConsistent line → k < line.steps t → (line.row t k).next ≡ Some n
    → IsStepOf line t (k + 1) (line.row t (k + 1))
row_after line t k n laws h looks = laws.rows t (k + 1) ((laws.rows t k h).more (ap (λ o. is_some o) looks))

-- the places of what a row looks ahead to are the ends of the segment beyond, and no end of the two before it
pub record IsBeyond (line : Line) (t k b x : ℕ) : Type 0 where
  pub beyond : line.ends t (k + 2) b x ≡ true
  pub not_here : line.ends t k b x ≡ false
  pub not_ahead : line.ends t (k + 1) b x ≡ false

-- two ends of which one is there alone
other_end : (p q : Bool) → q ≡ true → (p ≡ true → q ≡ false) → p ≡ false
other_end true q e h = absurd (false≢true (sym (h refl) ∙ e))
other_end false q e h = refl

beyond_place : (line : Line) (t k b x : ℕ) → IsConsistent line → k < line.steps t → looks_ahead (line.row t k) ≡ true
    → line.ends t (k + 1 + 1) b x ≡ true → IsBeyond line t k b x
beyond_place line t k b x laws h looks there =
    let is = laws.rows t k h in
    let after = laws.rows t (k + 1) (is.more looks) in
    let at_two : line.ends t (k + 2) b x ≡ true = ap (λ n. line.ends t n b x) (two k) ∙ there in
    record {
      beyond = at_two;
      not_here = other_end (line.ends t k b x) (line.ends t (k + 2) b x) at_two (is.beyond_apart looks b x);
      not_ahead = other_end (line.ends t (k + 1) b x) (line.ends t (k + 1 + 1) b x) there (after.apart b x);
    }
  where
    two : (n : ℕ) → n + 2 ≡ n + 1 + 1
    two n = omega arith

pub next_near : (line : Line) (t k : ℕ) (n : NextRow) → IsConsistent line → k < line.steps t → (line.row t k).next ≡ Some n
    → IsBeyond line t k n.b2.0 n.b2_arm.0
next_near line t k n laws h looks =
    let after = row_after line t k n laws h looks in
    subst (λ (m : NextRow). IsBeyond line t k m.b2.0 m.b2_arm.0) (sym ((laws.rows t k h).next_is n looks))
    (beyond_place line t k _ _ laws h (ap (λ o. is_some o) looks) (ahead_at line t (k + 1) after).0)

pub next_far : (line : Line) (t k : ℕ) (n : NextRow) → IsConsistent line → k < line.steps t → (line.row t k).next ≡ Some n
    → IsBeyond line t k n.c2.0 n.c2_arm.0
next_far line t k n laws h looks =
    let after = row_after line t k n laws h looks in
    subst (λ (m : NextRow). IsBeyond line t k m.c2.0 m.c2_arm.0) (sym ((laws.rows t k h).next_is n looks))
    (beyond_place line t k _ _ laws h (ap (λ o. is_some o) looks) (ahead_at line t (k + 1) after).1)

pub record HasArms (line : Line) (row : StepRow) : Type 0 where
  pub x : line.has_arm row.b.0 row.x.0 ≡ true
  pub y : line.has_arm row.b.0 row.y.0 ≡ true
  pub far : line.has_arm row.c.0 row.c_arm.0 ≡ true
  pub back : line.has_arm row.a.0 row.a_arm.0 ≡ true
  pub near2 : (n : NextRow) → row.next ≡ Some n → line.has_arm n.b2.0 n.b2_arm.0 ≡ true
  pub far2 : (n : NextRow) → row.next ≡ Some n → line.has_arm n.c2.0 n.c2_arm.0 ≡ true

pub row_arms : (line : Line) (t k : ℕ) → IsConsistent line → k < line.steps t → HasArms line (line.row t k)
row_arms line t k laws h =
    let is = laws.rows t k h in
    let here = here_at line t k is in
    let ahead = ahead_at line t k is in
    record {
      x = laws.arms t k _ _ here.0;
      y = laws.arms t (k + 1) _ _ ahead.0;
      far = laws.arms t (k + 1) _ _ ahead.1;
      back = laws.arms t k _ _ here.1;
      near2 = λ n looks. laws.arms t (k + 2) _ _ (next_near line t k n laws h looks).beyond;
      far2 = λ n looks. laws.arms t (k + 2) _ _ (next_far line t k n laws h looks).beyond;
    }

pub letter_arm : (line : Line) (row : StepRow) (job : Job) (l : Letter) → HasArms line row → letter row job ≡ Some l → line.has_arm l.to.0 l.x.0 ≡ true
unfolding letter
letter_arm line row jobs.Near l arms is = grind arith
letter_arm line row jobs.Far l arms is = grind arith
letter_arm line row jobs.Near2 l arms is = let m = mapped _ _ _ is in subst (λ (z : Letter). line.has_arm z.to.0 z.x.0 ≡ true) m.2 (arms.near2 m.0 m.1)
letter_arm line row jobs.Far2 l arms is = let m = mapped _ _ _ is in subst (λ (z : Letter). line.has_arm z.to.0 z.x.0 ≡ true) m.2 (arms.far2 m.0 m.1)
letter_arm line row jobs.Lock l arms is = grind arith
letter_arm line row jobs.Pass l arms is = grind arith
letter_arm line row jobs.Unlock l arms is = grind arith
letter_arm line row jobs.FreeNear l arms is = grind arith
letter_arm line row jobs.FreeFar l arms is = grind arith
letter_arm line row jobs.DropFar2 l arms is = let m = mapped _ _ _ is in subst (λ (z : Letter). line.has_arm z.to.0 z.x.0 ≡ true) m.2 (arms.far2 m.0 m.1)
letter_arm line row jobs.DropNear2 l arms is = let m = mapped _ _ _ is in subst (λ (z : Letter). line.has_arm z.to.0 z.x.0 ≡ true) m.2 (arms.near2 m.0 m.1)
letter_arm line row jobs.DropFar l arms is = grind arith
letter_arm line row jobs.DropNear l arms is = grind arith

-- a letter about one arm names the first arm of the box besides
pub letter_second : (line : Line) (row : StepRow) (job : Job) (l : Letter) → IsConsistent line → HasArms line row → letter row job ≡ Some l
    → line.has_arm l.to.0 l.y.0 ≡ true
unfolding letter
letter_second line row jobs.Near l laws arms is = let first = laws.first_arm _ _ arms.y in grind arith
letter_second line row jobs.Far l laws arms is = let first = laws.first_arm _ _ arms.far in grind arith
letter_second line row jobs.Near2 l laws arms is = let m = mapped _ _ _ is in subst (λ (z : Letter). line.has_arm z.to.0 z.y.0 ≡ true) m.2 (laws.first_arm _ _ (arms.near2 m.0 m.1))
letter_second line row jobs.Far2 l laws arms is = let m = mapped _ _ _ is in subst (λ (z : Letter). line.has_arm z.to.0 z.y.0 ≡ true) m.2 (laws.first_arm _ _ (arms.far2 m.0 m.1))
letter_second line row jobs.Lock l laws arms is = grind arith
letter_second line row jobs.Pass l laws arms is = grind arith
letter_second line row jobs.Unlock l laws arms is = grind arith
letter_second line row jobs.FreeNear l laws arms is = let first = laws.first_arm _ _ arms.x in grind arith
letter_second line row jobs.FreeFar l laws arms is = let first = laws.first_arm _ _ arms.back in grind arith
letter_second line row jobs.DropFar2 l laws arms is = let m = mapped _ _ _ is in subst (λ (z : Letter). line.has_arm z.to.0 z.y.0 ≡ true) m.2 (laws.first_arm _ _ (arms.far2 m.0 m.1))
letter_second line row jobs.DropNear2 l laws arms is = let m = mapped _ _ _ is in subst (λ (z : Letter). line.has_arm z.to.0 z.y.0 ≡ true) m.2 (laws.first_arm _ _ (arms.near2 m.0 m.1))
letter_second line row jobs.DropFar l laws arms is = let first = laws.first_arm _ _ arms.far in grind arith
letter_second line row jobs.DropNear l laws arms is = let first = laws.first_arm _ _ arms.y in grind arith

-- what a train releases isn't where it stands
released_off : (line : Line) (t k : ℕ) (job : Job) (l : Letter) → IsConsistent line → k < line.steps t → letter (line.row t k) job ≡ Some l
    → l.verb ≡ verbs.Release → line.ends t (cond (has_passed job) (k + 1) k) l.to.0 l.x.0 ≡ false
unfolding letter has_passed
released_off line t k jobs.Near l laws on h verb = grind arith
released_off line t k jobs.Far l laws on h verb = grind arith
released_off line t k jobs.Near2 l laws on h verb =
    let m = mapped _ _ _ h in
    subst (λ (z : Letter). line.ends t k z.to.0 z.x.0 ≡ false) m.2 (next_near line t k m.0 laws on m.1).not_here
released_off line t k jobs.Far2 l laws on h verb =
    let m = mapped _ _ _ h in
    subst (λ (z : Letter). line.ends t k z.to.0 z.x.0 ≡ false) m.2 (next_far line t k m.0 laws on m.1).not_here
released_off line t k jobs.Lock l laws on h verb = grind arith
released_off line t k jobs.Pass l laws on h verb = grind arith
released_off line t k jobs.Unlock l laws on h verb = grind arith
released_off line t k jobs.FreeNear l laws on h verb = let is = laws.rows t k on in let row = line.row t k in let there = (here_at line t k is).0 in
    let none = is.apart row.b.0 row.x.0 there in grind arith
released_off line t k jobs.FreeFar l laws on h verb = let is = laws.rows t k on in let row = line.row t k in let there = (here_at line t k is).1 in
    let none = is.apart row.a.0 row.a_arm.0 there in grind arith
released_off line t k jobs.DropFar2 l laws on h verb =
    let m = mapped _ _ _ h in
    subst (λ (z : Letter). line.ends t k z.to.0 z.x.0 ≡ false) m.2 (next_far line t k m.0 laws on m.1).not_here
released_off line t k jobs.DropNear2 l laws on h verb =
    let m = mapped _ _ _ h in
    subst (λ (z : Letter). line.ends t k z.to.0 z.x.0 ≡ false) m.2 (next_near line t k m.0 laws on m.1).not_here
released_off line t k jobs.DropFar l laws on h verb = let is = laws.rows t k on in let row = line.row t k in let there = (ahead_at line t k is).1 in
    let none = is.apart row.c.0 row.c_arm.0 in grind arith
released_off line t k jobs.DropNear l laws on h verb = let is = laws.rows t k on in let row = line.row t k in let there = (ahead_at line t k is).0 in
    let none = is.apart row.b.0 row.y.0 in grind arith

pub letter_off : (line : Line) (t : ℕ) (m : TrainMind) (l : Letter) → IsConsistent line → m.step < line.steps t → letter_of line t m ≡ Some l
    → l.verb ≡ verbs.Release → line.ends t (place_of m) l.to.0 l.x.0 ≡ false
letter_off line t m l laws h is verb = released_off line t m.step m.job l laws h is verb

-- a letter about the segment after the next one has the verb of its job
pub next_verb : (o : Option NextRow) (f : NextRow → Letter) (v : Verb) (l : Letter) → ((n : NextRow) → (f n).verb ≡ v) → option_map f o ≡ Some l → l.verb ≡ v
next_verb o f v l is h = let m = mapped f o l h in subst (λ (z : Letter). z.verb ≡ v) m.2 (is m.0)

-- who asks for a lock asks it at the box of its step, holds both segments, and has no lock yet
pub record AsksLock (row : StepRow) (job : Job) (l : Letter) : Type 0 where
  pub to : l.to ≡ row.b
  pub x : l.x ≡ row.x
  pub y : l.y ≡ row.y
  pub holds : (here ahead beyond : Bool) (b x : ℕ) → (here || ahead) ≡ true → holds_at job row here ahead beyond b x ≡ true
  pub unlocked : (b x y : ℕ) → locks_at job row b x y ≡ false

-- what is held of two segments is held of three
both : (here ahead more : Bool) → (here || ahead) ≡ true → (here || ahead || more) ≡ true
both true ahead more h = refl
both false true more h = refl
both false false more h = absurd (false≢true h)

pub asks_lock : (row : StepRow) (job : Job) (l : Letter) → letter row job ≡ Some l → l.verb ≡ verbs.Lock → AsksLock row job l
unfolding letter holds_at locks_at
asks_lock row jobs.Near l is verb = absurd (grind arith)
asks_lock row jobs.Far l is verb = absurd (grind arith)
asks_lock row jobs.Near2 l is verb = let own = next_verb row.next _ verbs.Reserve l (λ n. refl) is in absurd (grind arith)
asks_lock row jobs.Far2 l is verb = let own = next_verb row.next _ verbs.Reserve l (λ n. refl) is in absurd (grind arith)
asks_lock row jobs.Lock l is verb = record { to = grind arith; x = grind arith; y = grind arith; holds = λ here ahead beyond b x h. both here ahead _ h; unlocked = λ b x y. refl }
asks_lock row jobs.Pass l is verb = absurd (grind arith)
asks_lock row jobs.Unlock l is verb = absurd (grind arith)
asks_lock row jobs.FreeNear l is verb = absurd (grind arith)
asks_lock row jobs.FreeFar l is verb = absurd (grind arith)
asks_lock row jobs.DropFar2 l is verb = let own = next_verb row.next _ verbs.Release l (λ n. refl) is in absurd (grind arith)
asks_lock row jobs.DropNear2 l is verb = let own = next_verb row.next _ verbs.Release l (λ n. refl) is in absurd (grind arith)
asks_lock row jobs.DropFar l is verb = absurd (grind arith)
asks_lock row jobs.DropNear l is verb = absurd (grind arith)

-- who asks to unlock names the lock that it has
pub record AsksUnlock (row : StepRow) (job : Job) (l : Letter) : Type 0 where
  pub to : l.to ≡ row.b
  pub x : l.x ≡ row.x
  pub y : l.y ≡ row.y
  pub locked : (b x y : ℕ) → locks_at job row b x y ≡ (at row.b row.x b x && row.y.0 == y)

pub asks_unlock : (row : StepRow) (job : Job) (l : Letter) → letter row job ≡ Some l → l.verb ≡ verbs.Unlock → AsksUnlock row job l
unfolding letter locks_at
asks_unlock row jobs.Near l is verb = absurd (grind arith)
asks_unlock row jobs.Far l is verb = absurd (grind arith)
asks_unlock row jobs.Near2 l is verb = let own = next_verb row.next _ verbs.Reserve l (λ n. refl) is in absurd (grind arith)
asks_unlock row jobs.Far2 l is verb = let own = next_verb row.next _ verbs.Reserve l (λ n. refl) is in absurd (grind arith)
asks_unlock row jobs.Lock l is verb = absurd (grind arith)
asks_unlock row jobs.Pass l is verb = absurd (grind arith)
asks_unlock row jobs.Unlock l is verb = record { to = grind arith; x = grind arith; y = grind arith; locked = λ b x y. refl }
asks_unlock row jobs.FreeNear l is verb = absurd (grind arith)
asks_unlock row jobs.FreeFar l is verb = absurd (grind arith)
asks_unlock row jobs.DropFar2 l is verb = let own = next_verb row.next _ verbs.Release l (λ n. refl) is in absurd (grind arith)
asks_unlock row jobs.DropNear2 l is verb = let own = next_verb row.next _ verbs.Release l (λ n. refl) is in absurd (grind arith)
asks_unlock row jobs.DropFar l is verb = absurd (grind arith)
asks_unlock row jobs.DropNear l is verb = absurd (grind arith)

-- only at Pass and at Unlock has a train a lock by its job, and that is the one of its step
pub locks_only : (row : StepRow) (job : Job) (b x y : ℕ) → locks_at job row b x y ≡ true → (is_near job ≡ false) × (row.b.0 ≡ b) × (row.x.0 ≡ x) × (row.y.0 ≡ y)
unfolding locks_at is_near
locks_only row jobs.Near b x y h = absurd (false≢true h)
locks_only row jobs.Far b x y h = absurd (false≢true h)
locks_only row jobs.Near2 b x y h = absurd (false≢true h)
locks_only row jobs.Far2 b x y h = absurd (false≢true h)
locks_only row jobs.Lock b x y h = absurd (false≢true h)
locks_only row jobs.Pass b x y h = (refl, grind (arith, nat_tests), grind (arith, nat_tests), grind (arith, nat_tests))
locks_only row jobs.Unlock b x y h = (refl, grind (arith, nat_tests), grind (arith, nat_tests), grind (arith, nat_tests))
locks_only row jobs.FreeNear b x y h = absurd (false≢true h)
locks_only row jobs.FreeFar b x y h = absurd (false≢true h)
locks_only row jobs.DropFar2 b x y h = absurd (false≢true h)
locks_only row jobs.DropNear2 b x y h = absurd (false≢true h)
locks_only row jobs.DropFar b x y h = absurd (false≢true h)
locks_only row jobs.DropNear b x y h = absurd (false≢true h)

-- a train that passes holds both segments, and has the lock of its step
pub passing_holds : (row : StepRow) (job : Job) (here ahead beyond : Bool) (b x : ℕ) → is_pass job ≡ true → (here || ahead) ≡ true
    → holds_at job row here ahead beyond b x ≡ true
unfolding is_pass holds_at
passing_holds row jobs.Near here ahead beyond b x h held = cc
passing_holds row jobs.Far here ahead beyond b x h held = cc
passing_holds row jobs.Near2 here ahead beyond b x h held = cc
passing_holds row jobs.Far2 here ahead beyond b x h held = cc
passing_holds row jobs.Lock here ahead beyond b x h held = cc
passing_holds row jobs.Pass here ahead beyond b x h held = both here ahead _ held
passing_holds row jobs.Unlock here ahead beyond b x h held = cc
passing_holds row jobs.FreeNear here ahead beyond b x h held = cc
passing_holds row jobs.FreeFar here ahead beyond b x h held = cc
passing_holds row jobs.DropFar2 here ahead beyond b x h held = cc
passing_holds row jobs.DropNear2 here ahead beyond b x h held = cc
passing_holds row jobs.DropFar here ahead beyond b x h held = cc
passing_holds row jobs.DropNear here ahead beyond b x h held = cc

pub passing_locks : (row : StepRow) (job : Job) (b x y : ℕ) → is_pass job ≡ true → locks_at job row b x y ≡ (at row.b row.x b x && row.y.0 == y)
unfolding is_pass locks_at
passing_locks row jobs.Near b x y h = cc
passing_locks row jobs.Far b x y h = cc
passing_locks row jobs.Near2 b x y h = cc
passing_locks row jobs.Far2 b x y h = cc
passing_locks row jobs.Lock b x y h = cc
passing_locks row jobs.Pass b x y h = refl
passing_locks row jobs.Unlock b x y h = cc
passing_locks row jobs.FreeNear b x y h = cc
passing_locks row jobs.FreeFar b x y h = cc
passing_locks row jobs.DropFar2 b x y h = cc
passing_locks row jobs.DropNear2 b x y h = cc
passing_locks row jobs.DropFar b x y h = cc
passing_locks row jobs.DropNear b x y h = cc

-- what a train asks to reserve it doesn't hold, and what it releases it holds
abbrev held_there : (line : Line) (t k : ℕ) (job : Job) (l : Letter) → Bool
held_there line t k job l =
    holds_at job (line.row t k) (line.ends t k l.to.0 l.x.0) (line.ends t (k + 1) l.to.0 l.x.0) (line.ends t (k + 2) l.to.0 l.x.0) l.to.0 l.x.0

module _ (line : Line) (t k : ℕ) (laws : IsConsistent line) (on : k < line.steps t) (n : NextRow) (looks : (line.row t k).next ≡ Some n) where
  new_near2 : held_there line t k jobs.Near2 (about_arm n.b2 verbs.Reserve n.b2_arm) ≡ false
  unfolding holds_at
  new_near2 = let at = next_near line t k n laws on looks in let here = at.not_here in let ahead = at.not_ahead in rw (here, ahead) refl

  new_far2 : held_there line t k jobs.Far2 (about_arm n.c2 verbs.Reserve n.c2_arm) ≡ false
  unfolding holds_at
  new_far2 =
      let at = next_far line t k n laws on looks in
      let here = at.not_here in
      let ahead = at.not_ahead in
      let apart : n.c2.0 ≢ n.b2.0 =
      subst (λ (m : NextRow). m.c2.0 ≢ m.b2.0) (sym ((laws.rows t k on).next_is n looks)) (row_after line t k n laws on looks).far_apart in
      rw (here, ahead, looks) (grind (arith, nat_tests))

  old_far2 : held_there line t k jobs.DropFar2 (about_arm n.c2 verbs.Release n.c2_arm) ≡ true
  unfolding holds_at
  old_far2 =
      let at = next_far line t k n laws on looks in
      let here = at.not_here in
      let ahead = at.not_ahead in
      let beyond = at.beyond in
      rw (here, ahead, looks, beyond) refl

  old_near2 : held_there line t k jobs.DropNear2 (about_arm n.b2 verbs.Release n.b2_arm) ≡ true
  unfolding holds_at
  old_near2 =
      let at = next_near line t k n laws on looks in
      let here = at.not_here in
      let ahead = at.not_ahead in
      rw (here, ahead, looks) (grind (arith, nat_tests))

reserve_new : (line : Line) (t k : ℕ) (job : Job) (l : Letter) → IsConsistent line → k < line.steps t → letter (line.row t k) job ≡ Some l
    → l.verb ≡ verbs.Reserve → held_there line t k job l ≡ false
unfolding letter holds_at
reserve_new line t k jobs.Near l laws on h verb = let is = laws.rows t k on in grind (arith, nat_tests, is.ahead l.to.0 l.x.0, is.apart l.to.0 l.x.0)
reserve_new line t k jobs.Far l laws on h verb = let is = laws.rows t k on in grind (arith, nat_tests, is.ahead l.to.0 l.x.0, is.apart l.to.0 l.x.0)
reserve_new line t k jobs.Near2 l laws on h verb =
    let m = mapped _ _ _ h in
    subst (λ (z : Letter). held_there line t k jobs.Near2 z ≡ false) m.2 (new_near2 line t k laws on m.0 m.1)
reserve_new line t k jobs.Far2 l laws on h verb =
    let m = mapped _ _ _ h in
    subst (λ (z : Letter). held_there line t k jobs.Far2 z ≡ false) m.2 (new_far2 line t k laws on m.0 m.1)
reserve_new line t k jobs.Lock l laws on h verb = grind arith
reserve_new line t k jobs.Pass l laws on h verb = grind arith
reserve_new line t k jobs.Unlock l laws on h verb = grind arith
reserve_new line t k jobs.FreeNear l laws on h verb = grind arith
reserve_new line t k jobs.FreeFar l laws on h verb = grind arith
reserve_new line t k jobs.DropFar2 l laws on h verb = let own = next_verb (line.row t k).next _ verbs.Release l (λ n. refl) h in absurd (grind arith)
reserve_new line t k jobs.DropNear2 l laws on h verb = let own = next_verb (line.row t k).next _ verbs.Release l (λ n. refl) h in absurd (grind arith)
reserve_new line t k jobs.DropFar l laws on h verb = grind arith
reserve_new line t k jobs.DropNear l laws on h verb = grind arith

release_old : (line : Line) (t k : ℕ) (job : Job) (l : Letter) → IsConsistent line → k < line.steps t → letter (line.row t k) job ≡ Some l
    → l.verb ≡ verbs.Release → held_there line t k job l ≡ true
unfolding letter holds_at
release_old line t k jobs.Near l laws on h verb = grind arith
release_old line t k jobs.Far l laws on h verb = grind arith
release_old line t k jobs.Near2 l laws on h verb = let own = next_verb (line.row t k).next _ verbs.Reserve l (λ n. refl) h in absurd (grind arith)
release_old line t k jobs.Far2 l laws on h verb = let own = next_verb (line.row t k).next _ verbs.Reserve l (λ n. refl) h in absurd (grind arith)
release_old line t k jobs.Lock l laws on h verb = grind arith
release_old line t k jobs.Pass l laws on h verb = grind arith
release_old line t k jobs.Unlock l laws on h verb = grind arith
release_old line t k jobs.FreeNear l laws on h verb = let is = laws.rows t k on in grind (arith, nat_tests, is.here l.to.0 l.x.0, is.ahead l.to.0 l.x.0)
release_old line t k jobs.FreeFar l laws on h verb = let is = laws.rows t k on in grind (arith, nat_tests, is.here l.to.0 l.x.0, is.ahead l.to.0 l.x.0)
release_old line t k jobs.DropFar2 l laws on h verb =
    let m = mapped _ _ _ h in
    subst (λ (z : Letter). held_there line t k jobs.DropFar2 z ≡ true) m.2 (old_far2 line t k laws on m.0 m.1)
release_old line t k jobs.DropNear2 l laws on h verb =
    let m = mapped _ _ _ h in
    subst (λ (z : Letter). held_there line t k jobs.DropNear2 z ≡ true) m.2 (old_near2 line t k laws on m.0 m.1)
release_old line t k jobs.DropFar l laws on h verb = let is = laws.rows t k on in grind (arith, nat_tests, is.here l.to.0 l.x.0, is.ahead l.to.0 l.x.0)
release_old line t k jobs.DropNear l laws on h verb = let is = laws.rows t k on in grind (arith, nat_tests, is.here l.to.0 l.x.0, is.ahead l.to.0 l.x.0)

pub reserves_new : (line : Line) (t : ℕ) (m : TrainMind) (l : Letter) → IsConsistent line → m.step < line.steps t → letter_of line t m ≡ Some l
    → l.verb ≡ verbs.Reserve → job_holds line t m l.to.0 l.x.0 ≡ false
reserves_new line t m l laws h is verb = reserve_new line t m.step m.job l laws h is verb

pub releases_old : (line : Line) (t : ℕ) (m : TrainMind) (l : Letter) → IsConsistent line → m.step < line.steps t → letter_of line t m ≡ Some l
    → l.verb ≡ verbs.Release → job_holds line t m l.to.0 l.x.0 ≡ true
releases_old line t m l laws h is verb = release_old line t m.step m.job l laws h is verb
