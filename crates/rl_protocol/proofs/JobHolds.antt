-- What a train holds and has locked by its job before and after an answer.
use Rattle.std.proofs.Common.{◌≡◌, ◌≢◌, ℕ, ◌+◌, ◌<◌, ◌==◌, Bool, true, false, cond, not, ◌&&◌, ◌||◌, Option, Some, refl, sym, ap, ◌∙◌, subst, ⊎_elim, arith}
use Rattle.std.specs.Prelude.{is_some, option_map}
use Rattle.std.proofs.lemmas.Bool.{cases_Bool, or_right}
use Rattle.std.proofs.lemmas.Bool.Decides.{nat_tests}
use Rattle.std.proofs.lemmas.Option.{none-some}
use Rattle.rl_base.specs.declared.job.Job.{Job}
use Rattle.rl_base.specs.declared.job.Job.TheVariants as jobs
use Rattle.rl_words.specs.declared.mail.Letter.{Letter}
use Rattle.rl_words.proofs.PackedSteps.{mapped}
use Rattle.rl_tables.specs.declared.table.NextRow.{NextRow}
use Rattle.rl_tables.specs.declared.table.StepRow.{StepRow}
use Rattle.rl_train.specs.declared.mind.TrainMind.{TrainMind}
use Rattle.rl_protocol.specs.Line.{Line, IsStepOf, IsConsistent}
use Rattle.rl_train.specs.Jobs.{looks_ahead, at, letter, is_pass, holds_at, locks_at, after_yes, after_no, ends_step}
use Rattle.rl_protocol.specs.Minds.{looks_on, letter_of, heard}
use Rattle.rl_protocol.specs.Held.{held_after, locked_after, job_holds, job_locks}
use Rattle.rl_protocol.proofs.Letters.{row_after}

-- the same at the row of the step, for each job. `spent` says that the train has no attempt left
HoldsOn : (line : Line) (t k b x : ℕ) (spent : Bool) (job : Job) (l : Letter) → Type 0
HoldsOn line t k b x spent job l =
    let after = cond (ends_step job) (k + 1) k in
    holds_at (after_yes (line.row t k) (looks_ahead (line.row t (k + 1))) spent job) (line.row t after) (line.ends t after b x)
    (line.ends t (after + 1) b x) (line.ends t (after + 2) b x) b x
    ≡ held_after l.verb (at l.to l.x b x)
    (holds_at job (line.row t k) (line.ends t k b x) (line.ends t (k + 1) b x) (line.ends t (k + 2) b x) b x)

-- what is left of three segments when the far end of the third is given back
dropped : (here ahead beyond p q : Bool) → beyond ≡ (p || q) → (here ≡ true → beyond ≡ false) → (ahead ≡ true → beyond ≡ false)
    → (p ≡ true → q ≡ false) → (here || ahead || p) ≡ ((here || ahead || true && beyond) && not q)
dropped here ahead beyond p q e f g h = grind (arith, cases_Bool here, cases_Bool ahead, cases_Bool p, cases_Bool q)

-- and what is held with that end
added : (here ahead beyond p q : Bool) → beyond ≡ (p || q) → (here || ahead || true && beyond) ≡ ((here || ahead || p) || q)
added here ahead beyond p q e = grind (arith, cases_Bool here, cases_Bool ahead, cases_Bool p, cases_Bool q)

-- what is left when an end apart from all else is given back
given_back : (p ahead : Bool) → (p ≡ true → ahead ≡ false) → ahead ≡ ((p || ahead || false) && not p)
given_back p ahead f = grind (arith, cases_Bool p, cases_Bool ahead)

given_back_ahead : (p ahead beyond : Bool) → (p ≡ true → ahead ≡ false) → (p ≡ true → beyond ≡ false)
    → (ahead || beyond) ≡ ((p || ahead || true && beyond) && not p)
given_back_ahead p ahead beyond f g = grind (arith, cases_Bool p, cases_Bool ahead, cases_Bool beyond)

-- two boxes are no one place
two_boxes : (b2 y c2 z : ℕ) (b x : ℕ) → c2 ≢ b2 → (b2 == b && y == x) ≡ true → (c2 == b && z == x) ≡ false
two_boxes b2 y c2 z b x apart h = grind (arith, nat_tests)

module _ (line : Line) (t k b x : ℕ) (spent : Bool) (l : Letter) (is : IsStepOf line t k (line.row t k)) where
  near : letter (line.row t k) jobs.Near ≡ Some l → HoldsOn line t k b x spent jobs.Near l
  unfolding HoldsOn letter holds_at after_yes ends_step
  near h = grind (arith, nat_tests, is.here b x, is.ahead b x, is.apart b x)

  far : letter (line.row t k) jobs.Far ≡ Some l → HoldsOn line t k b x spent jobs.Far l
  unfolding HoldsOn letter holds_at after_yes ends_step
  far h = grind (arith, nat_tests, is.here b x, is.ahead b x, is.apart b x, cases_Bool (looks_ahead (line.row t k)))

  lock : letter (line.row t k) jobs.Lock ≡ Some l → HoldsOn line t k b x spent jobs.Lock l
  unfolding HoldsOn letter holds_at after_yes ends_step
  lock h = grind (arith, nat_tests)

  unlock : letter (line.row t k) jobs.Unlock ≡ Some l → HoldsOn line t k b x spent jobs.Unlock l
  unfolding HoldsOn letter holds_at after_yes ends_step
  unlock h = grind (arith, nat_tests)

  free_near : letter (line.row t k) jobs.FreeNear ≡ Some l → HoldsOn line t k b x spent jobs.FreeNear l
  unfolding HoldsOn letter holds_at after_yes ends_step
  free_near h = grind (arith, nat_tests, is.here b x, is.ahead b x, is.apart b x, is.beyond_apart, cases_Bool (looks_ahead (line.row t k)))

  drop_far : letter (line.row t k) jobs.DropFar ≡ Some l → HoldsOn line t k b x spent jobs.DropFar l
  unfolding HoldsOn letter holds_at after_yes ends_step
  drop_far h = grind (arith, nat_tests, is.here b x, is.ahead b x, is.apart b x)

  drop_near : letter (line.row t k) jobs.DropNear ≡ Some l → HoldsOn line t k b x spent jobs.DropNear l
  unfolding HoldsOn letter holds_at after_yes ends_step
  drop_near h = grind (arith, nat_tests, is.here b x, is.ahead b x, is.apart b x)

  -- the end that is given back is one of the segment that is left, and so none of the next and of the one beyond
  left_ahead : at (line.row t k).a (line.row t k).a_arm b x ≡ true → line.ends t (k + 1) b x ≡ false
  left_ahead e = is.apart b x (is.here b x ∙ or_right _ _ e)

  left_beyond : looks_ahead (line.row t k) ≡ true → at (line.row t k).a (line.row t k).a_arm b x ≡ true → line.ends t (k + 2) b x ≡ false
  left_beyond looks e = is.beyond_apart looks b x (is.here b x ∙ or_right _ _ e)

  free_far_alone : looks_ahead (line.row t k) ≡ false → letter (line.row t k) jobs.FreeFar ≡ Some l → HoldsOn line t k b x spent jobs.FreeFar l
  unfolding HoldsOn letter holds_at after_yes ends_step
  free_far_alone looks h =
      let is_left = given_back (at (line.row t k).a (line.row t k).a_arm b x) (line.ends t (k + 1) b x) left_ahead in
      grind arith

  left_whole : looks_ahead (line.row t k) ≡ true → let p = at (line.row t k).a (line.row t k).a_arm b x in
      (line.ends t (k + 1) b x || line.ends t (k + 2) b x) ≡ ((p || line.ends t (k + 1) b x || true && line.ends t (k + 2) b x) && not p)
  left_whole looks = given_back_ahead _ (line.ends t (k + 1) b x) (line.ends t (k + 2) b x) left_ahead (left_beyond looks)

  -- the train goes on at the step after this one, or drops its segment there, and looks ahead again or not
  free_far_spent : looks_ahead (line.row t k) ≡ true → letter (line.row t k) jobs.FreeFar ≡ Some l → HoldsOn line t k b x true jobs.FreeFar l
  unfolding HoldsOn letter holds_at after_yes ends_step
  free_far_spent looks h = let is_left = left_whole looks in grind arith

  free_far_more : looks_ahead (line.row t k) ≡ true → looks_ahead (line.row t (k + 1)) ≡ true → letter (line.row t k) jobs.FreeFar ≡ Some l
      → HoldsOn line t k b x false jobs.FreeFar l
  unfolding HoldsOn letter holds_at after_yes ends_step
  free_far_more looks more h = let is_left = left_whole looks in grind arith

  free_far_last : looks_ahead (line.row t k) ≡ true → looks_ahead (line.row t (k + 1)) ≡ false → letter (line.row t k) jobs.FreeFar ≡ Some l
      → HoldsOn line t k b x false jobs.FreeFar l
  unfolding HoldsOn letter holds_at after_yes ends_step
  free_far_last looks more h = let is_left = left_whole looks in grind arith

  free_far_ahead : (none : Bool) → looks_ahead (line.row t k) ≡ true → letter (line.row t k) jobs.FreeFar ≡ Some l → HoldsOn line t k b x none jobs.FreeFar l
  free_far_ahead true looks h = free_far_spent looks h
  free_far_ahead false looks h = ⊎_elim (λ e. free_far_more looks e h) (λ e. free_far_last looks e h) (cases_Bool (looks_ahead (line.row t (k + 1))))

  free_far : letter (line.row t k) jobs.FreeFar ≡ Some l → HoldsOn line t k b x spent jobs.FreeFar l
  free_far h = ⊎_elim (λ e. free_far_ahead spent e h) (λ e. free_far_alone e h) (cases_Bool (looks_ahead (line.row t k)))

  module _ (n : NextRow) (there : (line.row t k).next ≡ Some n) (after : IsStepOf line t (k + 1) (line.row t (k + 1))) where
    near2 : letter (line.row t k) jobs.Near2 ≡ Some l → HoldsOn line t k b x spent jobs.Near2 l
    unfolding HoldsOn letter holds_at after_yes ends_step
    near2 h = grind (arith, nat_tests)

    beyond_is : line.ends t (k + 2) b x ≡ (at n.b2 n.b2_arm b x || at n.c2 n.c2_arm b x)
    beyond_is = grind (arith, is.next_is n there, after.ahead b x)

    beyond_off : (line.ends t k b x ≡ true → line.ends t (k + 2) b x ≡ false) × (line.ends t (k + 1) b x ≡ true → line.ends t (k + 2) b x ≡ false)
    beyond_off = (λ h. is.beyond_apart (ap (λ o. is_some o) there) b x h, λ h. grind (arith, after.apart b x))

    ends_off : at n.b2 n.b2_arm b x ≡ true → at n.c2 n.c2_arm b x ≡ false
    ends_off h = two_boxes n.b2.0 n.b2_arm.0 n.c2.0 n.c2_arm.0 b x (grind (arith, is.next_is n there, after.far_apart)) h

    far2 : letter (line.row t k) jobs.Far2 ≡ Some l → HoldsOn line t k b x spent jobs.Far2 l
    unfolding HoldsOn letter holds_at after_yes ends_step
    far2 h =
        let is_whole = added (line.ends t k b x) (line.ends t (k + 1) b x) (line.ends t (k + 2) b x) (at n.b2 n.b2_arm b x) (at n.c2 n.c2_arm b x) beyond_is in
        grind arith

    drop_far2 : letter (line.row t k) jobs.DropFar2 ≡ Some l → HoldsOn line t k b x spent jobs.DropFar2 l
    unfolding HoldsOn letter holds_at after_yes ends_step
    drop_far2 h =
        let is_left = dropped (line.ends t k b x) (line.ends t (k + 1) b x) (line.ends t (k + 2) b x) (at n.b2 n.b2_arm b x) (at n.c2 n.c2_arm b x) beyond_is
        beyond_off.0 beyond_off.1 ends_off in
        grind arith

    drop_near2 : letter (line.row t k) jobs.DropNear2 ≡ Some l → HoldsOn line t k b x spent jobs.DropNear2 l
    unfolding HoldsOn letter holds_at after_yes ends_step
    drop_near2 h = grind (arith, nat_tests, is.next_is n there, after.ahead b x, after.apart b x, is.beyond_apart)

holds_on : (line : Line) (t k b x : ℕ) (spent : Bool) (job : Job) (l : Letter) → IsConsistent line → k < line.steps t → letter (line.row t k) job ≡ Some l
    → HoldsOn line t k b x spent job l
unfolding letter
holds_on line t k b x spent jobs.Near l laws on h = near line t k b x spent l (laws.rows t k on) h
holds_on line t k b x spent jobs.Far l laws on h = far line t k b x spent l (laws.rows t k on) h
holds_on line t k b x spent jobs.Near2 l laws on h =
    let m = mapped _ _ _ h in
    near2 line t k b x spent l (laws.rows t k on) m.0 m.1 (row_after line t k m.0 laws on m.1) h
holds_on line t k b x spent jobs.Far2 l laws on h =
    let m = mapped _ _ _ h in
    far2 line t k b x spent l (laws.rows t k on) m.0 m.1 (row_after line t k m.0 laws on m.1) h
holds_on line t k b x spent jobs.Lock l laws on h = lock line t k b x spent l (laws.rows t k on) h
holds_on line t k b x spent jobs.Pass l laws on h = absurd (none-some l h)
holds_on line t k b x spent jobs.Unlock l laws on h = unlock line t k b x spent l (laws.rows t k on) h
holds_on line t k b x spent jobs.FreeNear l laws on h = free_near line t k b x spent l (laws.rows t k on) h
holds_on line t k b x spent jobs.FreeFar l laws on h = free_far line t k b x spent l (laws.rows t k on) h
holds_on line t k b x spent jobs.DropFar2 l laws on h =
    let m = mapped _ _ _ h in
    drop_far2 line t k b x spent l (laws.rows t k on) m.0 m.1 (row_after line t k m.0 laws on m.1) h
holds_on line t k b x spent jobs.DropNear2 l laws on h =
    let m = mapped _ _ _ h in
    drop_near2 line t k b x spent l (laws.rows t k on) m.0 m.1 (row_after line t k m.0 laws on m.1) h
holds_on line t k b x spent jobs.DropFar l laws on h = drop_far line t k b x spent l (laws.rows t k on) h
holds_on line t k b x spent jobs.DropNear l laws on h = drop_near line t k b x spent l (laws.rows t k on) h

LocksOn : (line : Line) (t k b x y : ℕ) (more spent : Bool) (job : Job) (l : Letter) → Type 0
LocksOn line t k b x y more spent job l =
    locks_at (after_yes (line.row t k) more spent job) (line.row t (cond (ends_step job) (k + 1) k)) b x y
    ≡ locked_after l.verb (at l.to l.x b x && l.y.0 == y) (locks_at job (line.row t k) b x y)

-- a letter about the segment after the next one is about no lock
about_next : (o : Option NextRow) (f : NextRow → Letter) (l : Letter) (there : Bool) → ((n : NextRow) → locked_after (f n).verb there false ≡ false)
    → option_map f o ≡ Some l → locked_after l.verb there false ≡ false
about_next o f l there is h = let m = mapped f o l h in subst (λ (z : Letter). locked_after z.verb there false ≡ false) m.2 (is m.0)

locks_on : (line : Line) (t k b x y : ℕ) (more spent : Bool) (job : Job) (l : Letter) → letter (line.row t k) job ≡ Some l
    → LocksOn line t k b x y more spent job l
unfolding LocksOn letter locks_at after_yes ends_step
locks_on line t k b x y more spent jobs.Near l h = grind (arith, nat_tests)
locks_on line t k b x y more spent jobs.Far l h = grind (arith, nat_tests, cases_Bool (looks_ahead (line.row t k)))
locks_on line t k b x y more spent jobs.Near2 l h = sym (about_next (line.row t k).next _ l _ (λ n. refl) h)
locks_on line t k b x y more spent jobs.Far2 l h = sym (about_next (line.row t k).next _ l _ (λ n. refl) h)
locks_on line t k b x y more spent jobs.Lock l h = grind (arith, nat_tests)
locks_on line t k b x y more spent jobs.Pass l h = absurd (none-some l h)
locks_on line t k b x y more spent jobs.Unlock l h = grind (arith, nat_tests)
locks_on line t k b x y more spent jobs.FreeNear l h = grind (arith, nat_tests)
locks_on line t k b x y more spent jobs.FreeFar l h = grind (arith, nat_tests, cases_Bool (looks_ahead (line.row t k)), cases_Bool spent, cases_Bool more)
locks_on line t k b x y more spent jobs.DropFar2 l h = sym (about_next (line.row t k).next _ l _ (λ n. refl) h)
locks_on line t k b x y more spent jobs.DropNear2 l h = sym (about_next (line.row t k).next _ l _ (λ n. refl) h)
locks_on line t k b x y more spent jobs.DropFar l h = grind (arith, nat_tests)
locks_on line t k b x y more spent jobs.DropNear l h = grind (arith, nat_tests)

-- with Yes a train holds and has locked what the letter has changed
pub heard_holds : (line : Line) (t b x : ℕ) (m : TrainMind) (l : Letter) → IsConsistent line → m.step < line.steps t → letter_of line t m ≡ Some l
    → job_holds line t (heard line t m) b x ≡ held_after l.verb (at l.to l.x b x) (job_holds line t m b x)
unfolding HoldsOn
heard_holds line t b x m l laws h is = holds_on line t m.step b x (m.left == 0) m.job l laws h is

pub heard_locks : (line : Line) (t b x y : ℕ) (m : TrainMind) (l : Letter) → letter_of line t m ≡ Some l
    → job_locks line t (heard line t m) b x y ≡ locked_after l.verb (at l.to l.x b x && l.y.0 == y) (job_locks line t m b x y)
unfolding LocksOn
heard_locks line t b x y m l is = locks_on line t m.step b x y (looks_on line t m) (m.left == 0) m.job l is

-- with No it is what it was
pub denied_holds : (row : StepRow) (job new : Job) (here ahead beyond : Bool) (b x : ℕ) → after_no row job ≡ Some new
    → holds_at new row here ahead beyond b x ≡ holds_at job row here ahead beyond b x
unfolding after_no holds_at
denied_holds row jobs.Near new here ahead beyond b x h = grind arith
denied_holds row jobs.Far new here ahead beyond b x h = grind arith
denied_holds row jobs.Near2 new here ahead beyond b x h = grind arith
denied_holds row jobs.Far2 new here ahead beyond b x h = grind arith
denied_holds row jobs.Lock new here ahead beyond b x h = grind (arith, cases_Bool (looks_ahead row))
denied_holds row jobs.Pass new here ahead beyond b x h = grind arith
denied_holds row jobs.Unlock new here ahead beyond b x h = grind arith
denied_holds row jobs.FreeNear new here ahead beyond b x h = grind arith
denied_holds row jobs.FreeFar new here ahead beyond b x h = grind arith
denied_holds row jobs.DropFar2 new here ahead beyond b x h = grind arith
denied_holds row jobs.DropNear2 new here ahead beyond b x h = grind arith
denied_holds row jobs.DropFar new here ahead beyond b x h = grind arith
denied_holds row jobs.DropNear new here ahead beyond b x h = grind arith

pub denied_locks : (row : StepRow) (job new : Job) (b x y : ℕ) → after_no row job ≡ Some new → locks_at new row b x y ≡ locks_at job row b x y
unfolding after_no locks_at
denied_locks row jobs.Near new b x y h = grind arith
denied_locks row jobs.Far new b x y h = grind arith
denied_locks row jobs.Near2 new b x y h = grind arith
denied_locks row jobs.Far2 new b x y h = grind arith
denied_locks row jobs.Lock new b x y h = grind (arith, cases_Bool (looks_ahead row))
denied_locks row jobs.Pass new b x y h = grind arith
denied_locks row jobs.Unlock new b x y h = grind arith
denied_locks row jobs.FreeNear new b x y h = grind arith
denied_locks row jobs.FreeFar new b x y h = grind arith
denied_locks row jobs.DropFar2 new b x y h = grind arith
denied_locks row jobs.DropNear2 new b x y h = grind arith
denied_locks row jobs.DropFar new b x y h = grind arith
denied_locks row jobs.DropNear new b x y h = grind arith

-- and after the passage too
pub passed_holds : (row : StepRow) (job : Job) (here ahead beyond : Bool) (b x : ℕ) → is_pass job ≡ true
    → holds_at jobs.Unlock row here ahead beyond b x ≡ holds_at job row here ahead beyond b x
unfolding is_pass holds_at
passed_holds row jobs.Near here ahead beyond b x h = cc
passed_holds row jobs.Far here ahead beyond b x h = cc
passed_holds row jobs.Near2 here ahead beyond b x h = cc
passed_holds row jobs.Far2 here ahead beyond b x h = cc
passed_holds row jobs.Lock here ahead beyond b x h = cc
passed_holds row jobs.Pass here ahead beyond b x h = refl
passed_holds row jobs.Unlock here ahead beyond b x h = cc
passed_holds row jobs.FreeNear here ahead beyond b x h = cc
passed_holds row jobs.FreeFar here ahead beyond b x h = cc
passed_holds row jobs.DropFar2 here ahead beyond b x h = cc
passed_holds row jobs.DropNear2 here ahead beyond b x h = cc
passed_holds row jobs.DropFar here ahead beyond b x h = cc
passed_holds row jobs.DropNear here ahead beyond b x h = cc

pub passed_locks : (row : StepRow) (job : Job) (b x y : ℕ) → is_pass job ≡ true → locks_at jobs.Unlock row b x y ≡ locks_at job row b x y
unfolding is_pass locks_at
passed_locks row jobs.Near b x y h = cc
passed_locks row jobs.Far b x y h = cc
passed_locks row jobs.Near2 b x y h = cc
passed_locks row jobs.Far2 b x y h = cc
passed_locks row jobs.Lock b x y h = cc
passed_locks row jobs.Pass b x y h = refl
passed_locks row jobs.Unlock b x y h = cc
passed_locks row jobs.FreeNear b x y h = cc
passed_locks row jobs.FreeFar b x y h = cc
passed_locks row jobs.DropFar2 b x y h = cc
passed_locks row jobs.DropNear2 b x y h = cc
passed_locks row jobs.DropFar b x y h = cc
passed_locks row jobs.DropNear b x y h = cc
