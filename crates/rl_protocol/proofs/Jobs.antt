-- Laws of the job table. Only here does a proof look at a job.
use Rattle.std.proofs.Common.{◌≡◌, ℕ, zero, suc, ◌+◌, ◌-◌, ◌==◌, Bool, true, false, cond, not, ◌&&◌, Option, Some, None, refl, sym, arith}
use Rattle.std.specs.Prelude.{is_some, option_map}
use Rattle.std.proofs.lemmas.Bool.{false≢true, cases_Bool, ne_eqb}
use Rattle.rl_base.specs.declared.job.Job.{Job}
use Rattle.rl_base.specs.declared.job.Job.TheVariants as jobs
use Rattle.rl_words.specs.declared.mail.Letter.{Letter}
use Rattle.rl_tables.specs.declared.table.NextRow.{NextRow}
use Rattle.rl_tables.specs.declared.table.StepRow.{StepRow}
use Rattle.rl_train.specs.declared.mind.TrainMind.{TrainMind}
use Rattle.rl_train.specs.Mind.{start_train}
use Rattle.rl_protocol.specs.Line.{Line}
use Rattle.rl_protocol.specs.State.{start}
use Rattle.rl_train.specs.Jobs.{looks_ahead, letter, is_pass, has_passed, onward, after_yes, after_no, reopens, ends_step, is_near, is_open, names_next, holds_at}
use Rattle.rl_train.specs.Jobs.{locks_at}
use Rattle.rl_protocol.specs.Minds.{row_of, looks_on, heard}
use Rattle.rl_protocol.specs.Agreement.{place_of, open_attempts, IsStanding}

-- a job with a letter isn't Pass
pub letter_not_passing : (job : Job) (row : StepRow) (l : Letter) → letter row job ≡ Some l → is_pass job ≡ false
unfolding letter is_pass
letter_not_passing jobs.Near row l h = refl
letter_not_passing jobs.Far row l h = refl
letter_not_passing jobs.Near2 row l h = refl
letter_not_passing jobs.Far2 row l h = refl
letter_not_passing jobs.Lock row l h = refl
letter_not_passing jobs.Pass row l h = cc
letter_not_passing jobs.Unlock row l h = refl
letter_not_passing jobs.FreeNear row l h = refl
letter_not_passing jobs.FreeFar row l h = refl
letter_not_passing jobs.DropFar2 row l h = refl
letter_not_passing jobs.DropNear2 row l h = refl
letter_not_passing jobs.DropFar row l h = refl
letter_not_passing jobs.DropNear row l h = refl

-- a letter about the segment after the next one is there where the row looks ahead
there_next : (o : Option NextRow) (f : NextRow → Letter) → is_some o ≡ true → (l : Letter) × (option_map f o ≡ Some l)
there_next None f h = absurd (false≢true h)
there_next (Some n) f h = (f n, refl)

-- and any other job has one, if it is at a row that looks ahead where it names the segment after the next one
pub letter_there : (job : Job) (row : StepRow) → (names_next job ≡ true → looks_ahead row ≡ true) → is_pass job ≡ false
    → (l : Letter) × (letter row job ≡ Some l)
unfolding letter is_pass names_next
letter_there jobs.Near row a h = (_, refl)
letter_there jobs.Far row a h = (_, refl)
letter_there jobs.Near2 row a h = there_next row.next _ (a refl)
letter_there jobs.Far2 row a h = there_next row.next _ (a refl)
letter_there jobs.Lock row a h = (_, refl)
letter_there jobs.Pass row a h = absurd (false≢true (sym h))
letter_there jobs.Unlock row a h = (_, refl)
letter_there jobs.FreeNear row a h = (_, refl)
letter_there jobs.FreeFar row a h = (_, refl)
letter_there jobs.DropFar2 row a h = there_next row.next _ (a refl)
letter_there jobs.DropNear2 row a h = there_next row.next _ (a refl)
letter_there jobs.DropFar row a h = (_, refl)
letter_there jobs.DropNear row a h = (_, refl)

-- no job after the reservation of the next segment, and none at the next step, has passed
far_stands : (looks : Bool) → has_passed (cond looks jobs.Near2 jobs.Lock) ≡ false
unfolding has_passed
far_stands true = refl
far_stands false = refl

next_stands : (looks more spent : Bool) → has_passed (cond looks (onward more spent) jobs.Near) ≡ false
unfolding has_passed
next_stands false more spent = refl
next_stands true more true = refl
next_stands true true false = refl
next_stands true false false = refl

-- the place of its route at which a job stands is the same after Yes
place_yes : (row : StepRow) (more spent : Bool) (job : Job) (step : ℕ) → is_pass job ≡ false
    → cond (has_passed (after_yes row more spent job)) (cond (ends_step job) (step + 1) step + 1) (cond (ends_step job) (step + 1) step)
    ≡ cond (has_passed job) (step + 1) step
unfolding is_pass has_passed after_yes ends_step
place_yes row more spent jobs.Near step h = refl
place_yes row more spent jobs.Far step h = rw (far_stands (looks_ahead row)) refl
place_yes row more spent jobs.Near2 step h = refl
place_yes row more spent jobs.Far2 step h = refl
place_yes row more spent jobs.Lock step h = refl
place_yes row more spent jobs.Pass step h = cc
place_yes row more spent jobs.Unlock step h = refl
place_yes row more spent jobs.FreeNear step h = refl
place_yes row more spent jobs.FreeFar step h = rw (next_stands (looks_ahead row) more spent) refl
place_yes row more spent jobs.DropFar2 step h = refl
place_yes row more spent jobs.DropNear2 step h = refl
place_yes row more spent jobs.DropFar step h = refl
place_yes row more spent jobs.DropNear step h = refl

-- the place of its route at which a train stands is the same after Yes and after No
pub place_heard : (line : Line) (t : ℕ) (m : TrainMind) → is_pass m.job ≡ false → place_of (heard line t m) ≡ place_of m
place_heard line t m h = place_yes (row_of line t m) (looks_on line t m) (m.left == 0) m.job m.step h

pub place_denied : (row : StepRow) (job new : Job) → after_no row job ≡ Some new → has_passed new ≡ has_passed job
unfolding after_no has_passed
place_denied row jobs.Near new h = grind arith
place_denied row jobs.Far new h = grind arith
place_denied row jobs.Near2 new h = grind arith
place_denied row jobs.Far2 new h = grind arith
place_denied row jobs.Lock new h = grind (arith, cases_Bool (looks_ahead row))
place_denied row jobs.Pass new h = grind arith
place_denied row jobs.Unlock new h = grind arith
place_denied row jobs.FreeNear new h = grind arith
place_denied row jobs.FreeFar new h = grind arith
place_denied row jobs.DropFar2 new h = grind arith
place_denied row jobs.DropNear2 new h = grind arith
place_denied row jobs.DropFar new h = grind arith
place_denied row jobs.DropNear new h = grind arith

-- who passes hasn't left its segment by its job, and has afterwards
pub place_passes : (job : Job) → is_pass job ≡ true → has_passed job ≡ false
unfolding is_pass has_passed
place_passes jobs.Near h = cc
place_passes jobs.Far h = cc
place_passes jobs.Near2 h = cc
place_passes jobs.Far2 h = cc
place_passes jobs.Lock h = cc
place_passes jobs.Pass h = refl
place_passes jobs.Unlock h = cc
place_passes jobs.FreeNear h = cc
place_passes jobs.FreeFar h = cc
place_passes jobs.DropFar2 h = cc
place_passes jobs.DropNear2 h = cc
place_passes jobs.DropFar h = cc
place_passes jobs.DropNear h = cc

pub place_passed : has_passed jobs.Unlock ≡ true
unfolding has_passed
place_passed = refl

-- only at Near does an attempt open with the wait
pub open_begun : (job : Job) (waits : Bool) → is_near job ≡ true → is_open job waits ≡ waits
unfolding is_near is_open
open_begun jobs.Near waits h = refl
open_begun jobs.Far waits h = cc
open_begun jobs.Near2 waits h = cc
open_begun jobs.Far2 waits h = cc
open_begun jobs.Lock waits h = cc
open_begun jobs.Pass waits h = cc
open_begun jobs.Unlock waits h = cc
open_begun jobs.FreeNear waits h = cc
open_begun jobs.FreeFar waits h = cc
open_begun jobs.DropFar2 waits h = cc
open_begun jobs.DropNear2 waits h = cc
open_begun jobs.DropFar waits h = cc
open_begun jobs.DropNear waits h = cc

pub open_always : (job : Job) → is_near job ≡ false → is_open job true ≡ is_open job false
unfolding is_near is_open
open_always jobs.Near h = cc
open_always jobs.Far h = refl
open_always jobs.Near2 h = refl
open_always jobs.Far2 h = refl
open_always jobs.Lock h = refl
open_always jobs.Pass h = refl
open_always jobs.Unlock h = refl
open_always jobs.FreeNear h = refl
open_always jobs.FreeFar h = refl
open_always jobs.DropFar2 h = refl
open_always jobs.DropNear2 h = refl
open_always jobs.DropFar h = refl
open_always jobs.DropNear h = refl

-- the attempt goes on where the next segment is reserved, and at the end of a step the next attempt is open exactly where
-- it uses up one of those left
far_opens : (looks : Bool) → is_open (cond looks jobs.Near2 jobs.Lock) false ≡ true
unfolding is_open
far_opens true = refl
far_opens false = refl

open_next : (looks more : Bool) (step left : ℕ)
    → cond (looks && not (left == 0)) (left - 1) left + (step + 1) + cond (is_open (cond looks (onward more (left == 0)) jobs.Near) false) 1 0 ≡ left + step + 1
unfolding is_open
open_next false more step left = omega arith
open_next true more step zero = omega arith
open_next true true step (suc left) = let some = ne_eqb (suc left) 0 (λ z. omega arith) in rw some (omega arith)
open_next true false step (suc left) = let some = ne_eqb (suc left) 0 (λ z. omega arith) in rw some (omega arith)

-- with Yes a step is made where the open attempt ends
pub open_heard : (row : StepRow) (more : Bool) (job : Job) (step left : ℕ) → is_pass job ≡ false
    → cond (reopens row (left == 0) job) (left - 1) left + cond (ends_step job) (step + 1) step + cond (is_open (after_yes row more (left == 0) job) false) 1 0
    ≡ left + step + cond (is_open job true) 1 0
unfolding is_pass ends_step is_open after_yes reopens
open_heard row more jobs.Near step left h = refl
open_heard row more jobs.Far step left h = rw (far_opens (looks_ahead row)) refl
open_heard row more jobs.Near2 step left h = refl
open_heard row more jobs.Far2 step left h = refl
open_heard row more jobs.Lock step left h = refl
open_heard row more jobs.Pass step left h = cc
open_heard row more jobs.Unlock step left h = refl
open_heard row more jobs.FreeNear step left h = refl
open_heard row more jobs.FreeFar step left h = open_next (looks_ahead row) more step left
open_heard row more jobs.DropFar2 step left h = refl
open_heard row more jobs.DropNear2 step left h = refl
open_heard row more jobs.DropFar step left h = refl
open_heard row more jobs.DropNear step left h = refl

-- with No the open attempt ends
pub open_denied : (row : StepRow) (job new : Job) → after_no row job ≡ Some new → (is_open job true ≡ true) × (is_open new false ≡ false)
unfolding after_no is_open
open_denied row jobs.Near new h = grind arith
open_denied row jobs.Far new h = grind arith
open_denied row jobs.Near2 new h = grind arith
open_denied row jobs.Far2 new h = grind arith
open_denied row jobs.Lock new h = grind (arith, cases_Bool (looks_ahead row))
open_denied row jobs.Pass new h = grind arith
open_denied row jobs.Unlock new h = grind arith
open_denied row jobs.FreeNear new h = grind arith
open_denied row jobs.FreeFar new h = grind arith
open_denied row jobs.DropFar2 new h = grind arith
open_denied row jobs.DropNear2 new h = grind arith
open_denied row jobs.DropFar new h = grind arith
open_denied row jobs.DropNear new h = grind arith

-- the attempt stays open through the passage
pub open_passed : (job : Job) → is_pass job ≡ true → is_open jobs.Unlock false ≡ is_open job true
unfolding is_pass is_open
open_passed jobs.Near h = cc
open_passed jobs.Far h = cc
open_passed jobs.Near2 h = cc
open_passed jobs.Far2 h = cc
open_passed jobs.Lock h = cc
open_passed jobs.Pass h = refl
open_passed jobs.Unlock h = cc
open_passed jobs.FreeNear h = cc
open_passed jobs.FreeFar h = cc
open_passed jobs.DropFar2 h = cc
open_passed jobs.DropNear2 h = cc
open_passed jobs.DropFar h = cc
open_passed jobs.DropNear h = cc

-- a step that doesn't look ahead ends where an attempt may begin, and the passage is no beginning
pub begins_finished : (row : StepRow) (more spent : Bool) (job : Job) → ends_step job ≡ true → looks_ahead row ≡ false
    → is_near (after_yes row more spent job) ≡ true
unfolding ends_step is_near after_yes
begins_finished row more spent jobs.Near h looks = cc
begins_finished row more spent jobs.Far h looks = cc
begins_finished row more spent jobs.Near2 h looks = cc
begins_finished row more spent jobs.Far2 h looks = cc
begins_finished row more spent jobs.Lock h looks = cc
begins_finished row more spent jobs.Pass h looks = cc
begins_finished row more spent jobs.Unlock h looks = cc
begins_finished row more spent jobs.FreeNear h looks = cc
begins_finished row more spent jobs.FreeFar h looks = rw looks refl
begins_finished row more spent jobs.DropFar2 h looks = cc
begins_finished row more spent jobs.DropNear2 h looks = cc
begins_finished row more spent jobs.DropFar h looks = cc
begins_finished row more spent jobs.DropNear h looks = cc

-- a job about the segment after the next one comes only at a row that looks ahead: after Yes, at the row of the step at
-- which the train then is, and after No
far_named : (looks : Bool) → names_next (cond looks jobs.Near2 jobs.Lock) ≡ true → looks ≡ true
unfolding names_next
far_named true h = refl
far_named false h = h

next_named : (looks more spent : Bool) → names_next (cond looks (onward more spent) jobs.Near) ≡ true → more ≡ true
unfolding names_next
next_named false more spent h = absurd (false≢true h)
next_named true more true h = absurd (false≢true h)
next_named true true false h = refl
next_named true false false h = h

pub ahead_heard : (row : StepRow) (more spent : Bool) (job : Job) → (names_next job ≡ true → looks_ahead row ≡ true)
    → names_next (after_yes row more spent job) ≡ true → cond (ends_step job) more (looks_ahead row) ≡ true
unfolding names_next after_yes ends_step
ahead_heard row more spent jobs.Near a h = absurd (false≢true h)
ahead_heard row more spent jobs.Far a h = far_named (looks_ahead row) h
ahead_heard row more spent jobs.Near2 a h = a refl
ahead_heard row more spent jobs.Far2 a h = absurd (false≢true h)
ahead_heard row more spent jobs.Lock a h = absurd (false≢true h)
ahead_heard row more spent jobs.Pass a h = absurd (false≢true h)
ahead_heard row more spent jobs.Unlock a h = absurd (false≢true h)
ahead_heard row more spent jobs.FreeNear a h = absurd (false≢true h)
ahead_heard row more spent jobs.FreeFar a h = next_named (looks_ahead row) more spent h
ahead_heard row more spent jobs.DropFar2 a h = a refl
ahead_heard row more spent jobs.DropNear2 a h = absurd (false≢true h)
ahead_heard row more spent jobs.DropFar a h = absurd (false≢true h)
ahead_heard row more spent jobs.DropNear a h = absurd (false≢true h)

pub ahead_denied : (row : StepRow) (job new : Job) → (names_next job ≡ true → looks_ahead row ≡ true) → after_no row job ≡ Some new → names_next new ≡ true
    → looks_ahead row ≡ true
unfolding names_next after_no
ahead_denied row jobs.Near new a h named = grind arith
ahead_denied row jobs.Far new a h named = grind arith
ahead_denied row jobs.Near2 new a h named = grind arith
ahead_denied row jobs.Far2 new a h named = a refl
ahead_denied row jobs.Lock new a h named = grind (arith, cases_Bool (looks_ahead row))
ahead_denied row jobs.Pass new a h named = grind arith
ahead_denied row jobs.Unlock new a h named = grind arith
ahead_denied row jobs.FreeNear new a h named = grind arith
ahead_denied row jobs.FreeFar new a h named = grind arith
ahead_denied row jobs.DropFar2 new a h named = grind arith
ahead_denied row jobs.DropNear2 new a h named = grind arith
ahead_denied row jobs.DropFar new a h named = grind arith
ahead_denied row jobs.DropNear new a h named = grind arith

-- who passes, and who has passed, names none
pub ahead_passed : names_next jobs.Unlock ≡ false
unfolding names_next
ahead_passed = refl

pub begins_passes : (job : Job) → is_pass job ≡ true → is_near job ≡ false
unfolding is_pass is_near
begins_passes jobs.Near h = cc
begins_passes jobs.Far h = cc
begins_passes jobs.Near2 h = cc
begins_passes jobs.Far2 h = cc
begins_passes jobs.Lock h = cc
begins_passes jobs.Pass h = refl
begins_passes jobs.Unlock h = cc
begins_passes jobs.FreeNear h = cc
begins_passes jobs.FreeFar h = cc
begins_passes jobs.DropFar2 h = cc
begins_passes jobs.DropNear2 h = cc
begins_passes jobs.DropFar h = cc
begins_passes jobs.DropNear h = cc

-- a train starts at Near: it holds its segment and has no lock, and stands on it without an open attempt
pub starts_holding : (row : StepRow) (here ahead beyond : Bool) (b x : ℕ) → holds_at jobs.Near row here ahead beyond b x ≡ here
unfolding holds_at
starts_holding row here ahead beyond b x = refl

pub starts_unlocked : (row : StepRow) (b x y : ℕ) → locks_at jobs.Near row b x y ≡ false
unfolding locks_at
starts_unlocked row b x y = refl

pub starts_standing : (line : Line) (tries t : ℕ) → IsStanding (start line tries) t (place_of (start_train tries))
unfolding has_passed
starts_standing line tries t = (refl, refl, refl)

pub starts_closed : (tries : ℕ) → let m = start_train tries in m.left + m.step + m.refused + open_attempts m ≡ tries
unfolding is_open
starts_closed tries = omega arith

pub starts_beginning : not (is_near jobs.Near) ≡ false
unfolding is_near
starts_beginning = refl

pub starts_named : names_next jobs.Near ≡ false
unfolding names_next
starts_named = refl

-- where an attempt may begin a train holds the segment on which the step begins, and has no lock
pub beginning_holds : (row : StepRow) (job : Job) (here ahead beyond : Bool) (b x : ℕ) → is_near job ≡ true → holds_at job row here ahead beyond b x ≡ here
unfolding is_near holds_at
beginning_holds row jobs.Near here ahead beyond b x h = refl
beginning_holds row jobs.Far here ahead beyond b x h = cc
beginning_holds row jobs.Near2 here ahead beyond b x h = cc
beginning_holds row jobs.Far2 here ahead beyond b x h = cc
beginning_holds row jobs.Lock here ahead beyond b x h = cc
beginning_holds row jobs.Pass here ahead beyond b x h = cc
beginning_holds row jobs.Unlock here ahead beyond b x h = cc
beginning_holds row jobs.FreeNear here ahead beyond b x h = cc
beginning_holds row jobs.FreeFar here ahead beyond b x h = cc
beginning_holds row jobs.DropFar2 here ahead beyond b x h = cc
beginning_holds row jobs.DropNear2 here ahead beyond b x h = cc
beginning_holds row jobs.DropFar here ahead beyond b x h = cc
beginning_holds row jobs.DropNear here ahead beyond b x h = cc

pub beginning_unlocked : (row : StepRow) (job : Job) (b x y : ℕ) → is_near job ≡ true → locks_at job row b x y ≡ false
unfolding is_near locks_at
beginning_unlocked row jobs.Near b x y h = refl
beginning_unlocked row jobs.Far b x y h = cc
beginning_unlocked row jobs.Near2 b x y h = cc
beginning_unlocked row jobs.Far2 b x y h = cc
beginning_unlocked row jobs.Lock b x y h = cc
beginning_unlocked row jobs.Pass b x y h = cc
beginning_unlocked row jobs.Unlock b x y h = cc
beginning_unlocked row jobs.FreeNear b x y h = cc
beginning_unlocked row jobs.FreeFar b x y h = cc
beginning_unlocked row jobs.DropFar2 b x y h = cc
beginning_unlocked row jobs.DropNear2 b x y h = cc
beginning_unlocked row jobs.DropFar b x y h = cc
beginning_unlocked row jobs.DropNear b x y h = cc

pub beginning_place : (job : Job) → is_near job ≡ true → has_passed job ≡ false
unfolding is_near has_passed
beginning_place jobs.Near h = refl
beginning_place jobs.Far h = cc
beginning_place jobs.Near2 h = cc
beginning_place jobs.Far2 h = cc
beginning_place jobs.Lock h = cc
beginning_place jobs.Pass h = cc
beginning_place jobs.Unlock h = cc
beginning_place jobs.FreeNear h = cc
beginning_place jobs.FreeFar h = cc
beginning_place jobs.DropFar2 h = cc
beginning_place jobs.DropNear2 h = cc
beginning_place jobs.DropFar h = cc
beginning_place jobs.DropNear h = cc
