-- A step of a train leaves its mind well formed.
use Rattle.std.proofs.Common.{◌≡◌, ℕ, zero, suc, ◌+◌, ◌-◌, ◌<◌, ◌==◌, Bool, true, false, cond, length, slice_get, Some, refl, sym, ◌∙◌, subst, ap, arith}
use Rattle.std.specs.Option.{option_map_or}
use Rattle.std.proofs.lemmas.Bool.{or_parts, eqb-false, ne_eqb, false≢true}
use Rattle.std.proofs.lemmas.Option.{same_Some}
use Rattle.rl_base.specs.Tries.{AreFewTries}
use Rattle.rl_base.specs.declared.job.Job.{Job}
use Rattle.rl_base.specs.declared.job.Job.TheVariants.{Near, Far, Near2, Far2, Lock, Pass, Unlock, FreeNear, FreeFar, DropFar2, DropNear2, DropFar, DropNear}
use Rattle.rl_tables.specs.declared.table.StepRow.{StepRow}
use Rattle.rl_tables.specs.declared.table.TrainTable.{TrainTable}
use Rattle.rl_train.specs.declared.mind.TrainMind.{TrainMind}
use Rattle.rl_train.specs.Jobs.{looks_ahead, after_yes, after_no, reopens, is_near, is_open, is_pass, ends_step, names_next}
use Rattle.rl_train.specs.Mind.{row_of, looks_on, at_rest, attempts, IsTrainMind, IsUsable}
use Rattle.rl_train.specs.Steps.{posted, heard, denied}

abbrev mind_of : ℕ → Job → Bool → ℕ → ℕ → TrainMind
mind_of step job waits left refused = record { step = step; job = job; waits = waits; left = left; refused = refused }

-- a job about the segment after the next one is at a row that looks ahead
abbrev IsAtNext : TrainTable → TrainMind → Type 0
IsAtNext table mind = names_next mind.job ≡ true → (row : StepRow) → row_of table mind ≡ Some row → looks_ahead row ≡ true

-- a mind that is on its route, and whose attempts are no more than before
on_route : (table : TrainTable) (mind : TrainMind) → mind.step < length table.rows → IsAtNext table mind → AreFewTries (attempts mind) → IsTrainMind table mind
on_route table mind on next few = record { within = omega arith; on_route = λ _. on; ahead = next; few = few }

module _ (table : TrainTable) (row : StepRow) (step left refused : ℕ) (here : slice_get table.rows step ≡ Some row) where
  -- the row of the step is the only one there
  at_row : looks_ahead row ≡ true → (r : StepRow) → slice_get table.rows step ≡ Some r → looks_ahead r ≡ true
  at_row e r f = subst (λ (z : StepRow). looks_ahead z ≡ true) (same_Some row r (sym here ∙ f)) e

  far_heard : (looks : Bool) → looks_ahead row ≡ looks → IsTrainMind table (mind_of step Far true left refused)
      → IsTrainMind table (mind_of step (cond looks Near2 Lock) false left refused)
  unfolding is_near is_open names_next
  far_heard true e h = on_route table _ (h.on_route refl) (λ _ r f. at_row e r f) h.few
  far_heard false e h = on_route table _ (h.on_route refl) (λ f. absurd (false≢true f)) h.few

  -- at the end of a step that looked ahead: the attempts left are `left`, or one fewer where the next is opened
  free_far_heard : (more looks : Bool) → IsUsable table → (more ≡ true → (r : StepRow) → slice_get table.rows (step + 1) ≡ Some r → looks_ahead r ≡ true)
      → looks_ahead row ≡ looks → IsTrainMind table (mind_of step FreeFar true left refused)
      → IsTrainMind table (heard row more (mind_of step FreeFar true left refused))
  unfolding after_yes reopens ends_step is_near is_open names_next
  free_far_heard more false u on_next e h =
      let on = h.on_route refl in
      let few = h.few in
      rw e (record { within = omega arith; on_route = λ f. absurd (cc); ahead = λ f. absurd (false≢true f); few = omega arith })
  free_far_heard more true u on_next e h = of left more refl on_next
    where
      on : step + 1 < length table.rows
      on = u.goes_on step row here e

      of : (left2 : ℕ) (more : Bool) → left ≡ left2 → (more ≡ true → (r : StepRow) → slice_get table.rows (step + 1) ≡ Some r → looks_ahead r ≡ true)
          → IsTrainMind table (heard row more (mind_of step FreeFar true left2 refused))
      of zero more same on_next = let few = h.few in rw e (on_route table _ on (λ f. absurd (false≢true f)) (omega arith))
      of (suc n) true same on_next =
          let few = h.few in
          let some = ne_eqb (suc n) 0 (λ z. omega arith) in
          rw (e, some) (on_route table _ on (λ _ r f. on_next refl r f) (omega arith))
      of (suc n) false same on_next =
          let few = h.few in
          let some = ne_eqb (suc n) 0 (λ z. omega arith) in
          rw (e, some) (on_route table _ on (λ f. absurd (false≢true f)) (omega arith))

  heard_parts : (job : Job) (more : Bool) → IsUsable table
      → (more ≡ true → (r : StepRow) → slice_get table.rows (step + 1) ≡ Some r → looks_ahead r ≡ true)
      → IsTrainMind table (mind_of step job true left refused) → IsTrainMind table (heard row more (mind_of step job true left refused))
  unfolding after_yes reopens ends_step is_near is_open names_next
  heard_parts Near more u on_next h = let few = h.few in on_route table _ (h.on_route refl) (λ f. absurd (false≢true f)) (omega arith)
  heard_parts Far more u on_next h = far_heard (looks_ahead row) refl h
  heard_parts Near2 more u on_next h = on_route table _ (h.on_route refl) (λ _. h.ahead refl) h.few
  heard_parts Far2 more u on_next h = on_route table _ (h.on_route refl) (λ f. absurd (false≢true f)) h.few
  heard_parts Lock more u on_next h = on_route table _ (h.on_route refl) (λ f. absurd (false≢true f)) h.few
  heard_parts Pass more u on_next h = on_route table _ (h.on_route refl) (λ f. absurd (false≢true f)) h.few
  heard_parts Unlock more u on_next h = on_route table _ (h.on_route refl) (λ f. absurd (false≢true f)) h.few
  heard_parts FreeNear more u on_next h = on_route table _ (h.on_route refl) (λ f. absurd (false≢true f)) h.few
  heard_parts FreeFar more u on_next h = free_far_heard more (looks_ahead row) u on_next refl h
  heard_parts DropFar2 more u on_next h = on_route table _ (h.on_route refl) (λ _. h.ahead refl) h.few
  heard_parts DropNear2 more u on_next h = on_route table _ (h.on_route refl) (λ f. absurd (false≢true f)) h.few
  heard_parts DropFar more u on_next h = on_route table _ (h.on_route refl) (λ f. absurd (false≢true f)) h.few
  heard_parts DropNear more u on_next h = on_route table _ (h.on_route refl) (λ f. absurd (false≢true f)) h.few

  -- the attempt that was open is now a refusal
  denied_near : IsTrainMind table (mind_of step Near true left refused) → IsTrainMind table (denied Near (mind_of step Near true left refused))
  unfolding is_near is_open names_next
  denied_near h = let few = h.few in on_route table _ (h.on_route refl) (λ f. absurd (false≢true f)) (omega arith)

  denied_far : IsTrainMind table (mind_of step Far true left refused) → IsTrainMind table (denied DropNear (mind_of step Far true left refused))
  unfolding is_near is_open names_next
  denied_far h = let few = h.few in on_route table _ (h.on_route refl) (λ f. absurd (false≢true f)) (omega arith)

  denied_near2 : IsTrainMind table (mind_of step Near2 true left refused) → IsTrainMind table (denied DropFar (mind_of step Near2 true left refused))
  unfolding is_near is_open names_next
  denied_near2 h = let few = h.few in on_route table _ (h.on_route refl) (λ f. absurd (false≢true f)) (omega arith)

  denied_far2 : IsTrainMind table (mind_of step Far2 true left refused) → IsTrainMind table (denied DropNear2 (mind_of step Far2 true left refused))
  unfolding is_near is_open names_next
  denied_far2 h = let few = h.few in on_route table _ (h.on_route refl) (λ _. h.ahead refl) (omega arith)

  denied_lock : (looks : Bool) → looks_ahead row ≡ looks → IsTrainMind table (mind_of step Lock true left refused)
      → IsTrainMind table (denied (cond looks DropFar2 DropFar) (mind_of step Lock true left refused))
  unfolding is_near is_open names_next
  denied_lock true e h = let few = h.few in on_route table _ (h.on_route refl) (λ _ r f. at_row e r f) (omega arith)
  denied_lock false e h = let few = h.few in on_route table _ (h.on_route refl) (λ f. absurd (false≢true f)) (omega arith)

  denied_parts : (job next : Job) → after_no row job ≡ Some next → IsTrainMind table (mind_of step job true left refused)
      → IsTrainMind table (denied next (mind_of step job true left refused))
  unfolding after_no
  denied_parts Near next e h = let P : Job → Type 0 = λ j. IsTrainMind table (denied j (mind_of step Near true left refused)) in
      subst P (same_Some _ next e) (denied_near h)
  denied_parts Far next e h = let P : Job → Type 0 = λ j. IsTrainMind table (denied j (mind_of step Far true left refused)) in
      subst P (same_Some _ next e) (denied_far h)
  denied_parts Near2 next e h = let P : Job → Type 0 = λ j. IsTrainMind table (denied j (mind_of step Near2 true left refused)) in
      subst P (same_Some _ next e) (denied_near2 h)
  denied_parts Far2 next e h = let P : Job → Type 0 = λ j. IsTrainMind table (denied j (mind_of step Far2 true left refused)) in
      subst P (same_Some _ next e) (denied_far2 h)
  denied_parts Lock next e h = let P : Job → Type 0 = λ j. IsTrainMind table (denied j (mind_of step Lock true left refused)) in
      subst P (same_Some _ next e) (denied_lock (looks_ahead row) refl h)
  denied_parts Pass next e h = absurd (cc)
  denied_parts Unlock next e h = absurd (cc)
  denied_parts FreeNear next e h = absurd (cc)
  denied_parts FreeFar next e h = absurd (cc)
  denied_parts DropFar2 next e h = absurd (cc)
  denied_parts DropNear2 next e h = absurd (cc)
  denied_parts DropFar next e h = absurd (cc)
  denied_parts DropNear next e h = absurd (cc)

module _ (table : TrainTable) (step left refused : ℕ) where
  posted_near : IsTrainMind table (mind_of step Near false left refused) → at_rest table (mind_of step Near false left refused) ≡ false
      → IsTrainMind table (posted (mind_of step Near false left refused))
  unfolding is_near is_open
  posted_near h r =
      let ends = or_parts (step == length table.rows) (left == 0) r in
      let more = eqb-false step (length table.rows) ends.0 in
      let some = eqb-false left 0 ends.1 in
      let within = h.within in
      let few = h.few in
      on_route table _ (omega arith) h.ahead (omega arith)

  posted_parts : (job : Job) → IsTrainMind table (mind_of step job false left refused) → at_rest table (mind_of step job false left refused) ≡ false
      → IsTrainMind table (posted (mind_of step job false left refused))
  unfolding is_near is_open
  posted_parts Near h r = posted_near h r
  posted_parts Far h r = on_route table _ (h.on_route refl) h.ahead h.few
  posted_parts Near2 h r = on_route table _ (h.on_route refl) h.ahead h.few
  posted_parts Far2 h r = on_route table _ (h.on_route refl) h.ahead h.few
  posted_parts Lock h r = on_route table _ (h.on_route refl) h.ahead h.few
  posted_parts Pass h r = on_route table _ (h.on_route refl) h.ahead h.few
  posted_parts Unlock h r = on_route table _ (h.on_route refl) h.ahead h.few
  posted_parts FreeNear h r = on_route table _ (h.on_route refl) h.ahead h.few
  posted_parts FreeFar h r = on_route table _ (h.on_route refl) h.ahead h.few
  posted_parts DropFar2 h r = on_route table _ (h.on_route refl) h.ahead h.few
  posted_parts DropNear2 h r = on_route table _ (h.on_route refl) h.ahead h.few
  posted_parts DropFar h r = on_route table _ (h.on_route refl) h.ahead h.few
  posted_parts DropNear h r = on_route table _ (h.on_route refl) h.ahead h.few

-- a mind of which it is known whether it waits
known : (table : TrainTable) (mind : TrainMind) (waits : Bool) → mind.waits ≡ waits → IsTrainMind table mind
    → IsTrainMind table (mind_of mind.step mind.job waits mind.left mind.refused)
known table mind waits w h = subst (λ b. IsTrainMind table (mind_of mind.step mind.job b mind.left mind.refused)) w h

-- the row after its own, which is there, looks ahead
on_next : (table : TrainTable) (mind : TrainMind) → looks_on table mind ≡ true → (r : StepRow) → slice_get table.rows (mind.step + 1) ≡ Some r → looks_ahead r ≡ true
on_next table mind e r f = sym (ap (λ o. option_map_or looks_ahead o false) f) ∙ e

pub heard_kept : (table : TrainTable) (row : StepRow) (mind : TrainMind) → IsUsable table → IsTrainMind table mind → mind.waits ≡ true
    → row_of table mind ≡ Some row → IsTrainMind table (heard row (looks_on table mind) mind)
heard_kept table row mind u h w here =
    heard_parts table row mind.step mind.left mind.refused here mind.job (looks_on table mind) u (on_next table mind) (known table mind true w h)

pub denied_kept : (table : TrainTable) (row : StepRow) (mind : TrainMind) (next : Job) → IsTrainMind table mind → mind.waits ≡ true
    → row_of table mind ≡ Some row → after_no row mind.job ≡ Some next → IsTrainMind table (denied next mind)
denied_kept table row mind next h w here e =
    denied_parts table row mind.step mind.left mind.refused here mind.job next e (known table mind true w h)

pub posted_kept : (table : TrainTable) (mind : TrainMind) → IsTrainMind table mind → mind.waits ≡ false → at_rest table mind ≡ false
    → IsTrainMind table (posted mind)
posted_kept table mind h w r =
    let resting : at_rest table (mind_of mind.step mind.job false mind.left mind.refused) ≡ false =
    subst (λ b. at_rest table (mind_of mind.step mind.job b mind.left mind.refused) ≡ false) w r in
    posted_parts table mind.step mind.left mind.refused mind.job (known table mind false w h) resting

-- no attempt begins in the job that passes
pub pass_not_near : (job : Job) → is_pass job ≡ true → is_near job ≡ false
unfolding is_pass is_near
pass_not_near Near e = absurd (cc)
pass_not_near Far e = refl
pass_not_near Near2 e = refl
pass_not_near Far2 e = refl
pass_not_near Lock e = refl
pass_not_near Pass e = refl
pass_not_near Unlock e = refl
pass_not_near FreeNear e = refl
pass_not_near FreeFar e = refl
pass_not_near DropFar2 e = refl
pass_not_near DropNear2 e = refl
pass_not_near DropFar e = refl
pass_not_near DropNear e = refl

-- who passes is on the route
pub passing_on_route : (table : TrainTable) (mind : TrainMind) → IsTrainMind table mind → mind.job ≡ Pass → mind.step < length table.rows
unfolding is_near
passing_on_route table mind h is = h.on_route (rw is refl)

gone_parts : (table : TrainTable) (step left refused : ℕ) (waits : Bool) → IsTrainMind table (mind_of step Pass waits left refused)
    → IsTrainMind table (mind_of step Pass true left refused)
unfolding is_near is_open
gone_parts table step left refused waits h = on_route table _ (h.on_route refl) h.ahead h.few

quiet_parts : (table : TrainTable) (step left refused : ℕ) (waits : Bool) → IsTrainMind table (mind_of step Pass waits left refused)
    → IsTrainMind table (mind_of step Unlock false left refused)
unfolding is_near is_open names_next
quiet_parts table step left refused waits h = on_route table _ (h.on_route refl) (λ f. absurd (false≢true f)) h.few

-- a mind of which the job is known
passing : (table : TrainTable) (mind : TrainMind) → mind.job ≡ Pass → IsTrainMind table mind
    → IsTrainMind table (mind_of mind.step Pass mind.waits mind.left mind.refused)
passing table mind is h = subst (λ j. IsTrainMind table (mind_of mind.step j mind.waits mind.left mind.refused)) is h

pub gone_kept : (table : TrainTable) (mind : TrainMind) → IsTrainMind table mind → mind.job ≡ Pass → IsTrainMind table (record mind { waits = true })
gone_kept table mind h is =
    let at : Job → Type 0 = λ j. IsTrainMind table (mind_of mind.step j true mind.left mind.refused) in
    subst at (sym is) (gone_parts table mind.step mind.left mind.refused mind.waits (passing table mind is h))

pub quiet_kept : (table : TrainTable) (mind : TrainMind) → IsTrainMind table mind → mind.job ≡ Pass
    → IsTrainMind table (record mind { waits = false; job = Unlock })
quiet_kept table mind h is = quiet_parts table mind.step mind.left mind.refused mind.waits (passing table mind is h)
