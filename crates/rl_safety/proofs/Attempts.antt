-- The steps that a train has made and the refusals that it has met are attempts that it was given.
use Rattle.std.proofs.Common.{◌≡◌, ℕ, ◌+◌, ◌≤◌, Bool, true, false, cond, not, ◌&&◌, Some, refl, ap, ◌∙◌, subst, inl, inr, ⊎_elim, arith}
use Rattle.std.proofs.lemmas.Bool.{cases_Bool, and_parts, not-true}
use Rattle.rl_base.specs.declared.ids.TrainId.{TrainId}
use Rattle.rl_base.specs.declared.job.Job.{Job}
use Rattle.rl_base.specs.declared.job.Job.TheVariants as jobs
use Rattle.rl_base.specs.declared.job.Verb.{Verb}
use Rattle.rl_base.specs.declared.job.Verb.TheVariants as verbs
use Rattle.rl_tables.specs.declared.table.StepRow.{StepRow}
use Rattle.rl_words.specs.declared.mail.Letter.{Letter}
use Rattle.rl_words.specs.declared.mail.MailWord.{MailWord}
use Rattle.rl_words.specs.declared.mail.MailWord.TheVariants.{Empty, Ask, Taken, Yes, No}
use Rattle.rl_words.specs.Mail.{IsRefusable}
use Rattle.rl_protocol.specs.Agreement.{Agrees, Carries, IsPassing, is_passing, place_of, open_attempts, asks}
use Rattle.rl_train.specs.Jobs.{letter, is_pass, has_passed, is_open}
use Rattle.rl_protocol.specs.Line.{Line}
use Rattle.rl_protocol.specs.Minds.{at_rest, row_of}
use Rattle.rl_protocol.specs.Refusals.{is_no, refusals_said}
use Rattle.rl_protocol.specs.State.{State}
use Rattle.rl_protocol.specs.Worlds.{steps_made}
use Rattle.rl_protocol.proofs.Jobs.{letter_there, open_begun}
use Rattle.rl_protocol.proofs.Letters.{next_verb}
use Rattle.rl_protocol.proofs.Resting.{rest_mail, rest_run}

-- a train that has left its segment has its attempt open, and so has one that passes its box
passed_open : (job : Job) (waits : Bool) → has_passed job ≡ true → is_open job waits ≡ true
unfolding has_passed is_open
passed_open jobs.Near waits h = cc
passed_open jobs.Far waits h = refl
passed_open jobs.Near2 waits h = refl
passed_open jobs.Far2 waits h = refl
passed_open jobs.Lock waits h = refl
passed_open jobs.Pass waits h = refl
passed_open jobs.Unlock waits h = refl
passed_open jobs.FreeNear waits h = refl
passed_open jobs.FreeFar waits h = refl
passed_open jobs.DropFar2 waits h = cc
passed_open jobs.DropNear2 waits h = cc
passed_open jobs.DropFar waits h = cc
passed_open jobs.DropNear waits h = cc

passing_open : (job : Job) (waits : Bool) → is_pass job ≡ true → is_open job waits ≡ true
unfolding is_pass is_open
passing_open jobs.Near waits h = cc
passing_open jobs.Far waits h = refl
passing_open jobs.Near2 waits h = refl
passing_open jobs.Far2 waits h = refl
passing_open jobs.Lock waits h = refl
passing_open jobs.Pass waits h = refl
passing_open jobs.Unlock waits h = refl
passing_open jobs.FreeNear waits h = refl
passing_open jobs.FreeFar waits h = refl
passing_open jobs.DropFar2 waits h = cc
passing_open jobs.DropNear2 waits h = cc
passing_open jobs.DropFar waits h = cc
passing_open jobs.DropNear waits h = cc

-- so has one that waits for an answer which may be No, and it stands on its segment still
refusable_open : (job : Job) (row : StepRow) (l : Letter) → letter row job ≡ Some l → IsRefusable l.verb
    → (is_open job true ≡ true) × (has_passed job ≡ false)
unfolding letter is_open has_passed
refusable_open jobs.Near row l h may = (refl, refl)
refusable_open jobs.Far row l h may = (refl, refl)
refusable_open jobs.Near2 row l h may = (refl, refl)
refusable_open jobs.Far2 row l h may = (refl, refl)
refusable_open jobs.Lock row l h may = (refl, refl)
refusable_open jobs.Pass row l h may = cc
refusable_open jobs.Unlock row l h may = grind arith
refusable_open jobs.FreeNear row l h may = grind arith
refusable_open jobs.FreeFar row l h may = grind arith
refusable_open jobs.DropFar2 row l h may = absurd (subst (λ (v : Verb). IsRefusable v) (next_verb row.next _ verbs.Release l (λ n. refl) h) may)
refusable_open jobs.DropNear2 row l h may = absurd (subst (λ (v : Verb). IsRefusable v) (next_verb row.next _ verbs.Release l (λ n. refl) h) may)
refusable_open jobs.DropFar row l h may = grind arith
refusable_open jobs.DropNear row l h may = grind arith

module _ (line : Line) (tries : ℕ) (s : State) (agrees : Agrees line tries s) (t : ℕ) where
  -- who stands has made the steps up to its place
  made_standing : is_passing (s.trains t) ≡ false → steps_made (s.run t) ≡ place_of (s.trains t)
  made_standing stands = ap steps_made ((agrees.passage t).stands stands).0

  -- who passes its box has made the steps before it, and it may be that one too
  made_passing : (k : ℕ) → IsPassing s t k → steps_made (s.run t) ≤ k + 1
  made_passing k (inl a) = let is = ap steps_made a.0 in omega arith
  made_passing k (inr (inl a)) = let is = ap steps_made a.0 in omega arith
  made_passing k (inr (inr (inl a))) = let is = ap steps_made a.0 in omega arith
  made_passing k (inr (inr (inr (inl a)))) = let is = ap steps_made a.0 in omega arith
  made_passing k (inr (inr (inr (inr a)))) = let is = ap steps_made a.0 in omega arith

  -- a step that is made before it is counted is one of the open attempt
  made_within : steps_made (s.run t) ≤ (s.trains t).step + open_attempts (s.trains t)
  made_within = ⊎_elim passing (λ stands. standing stands (has_passed (s.trains t).job) refl) (cases_Bool (is_passing (s.trains t)))
    where
      passing : is_passing (s.trains t) ≡ true → steps_made (s.run t) ≤ (s.trains t).step + open_attempts (s.trains t)
      passing passes_box =
          let most = made_passing (s.trains t).step ((agrees.passage t).passing passes_box) in
          let passes_now : is_pass (s.trains t).job ≡ true = (and_parts (s.trains t).waits (is_pass (s.trains t).job) passes_box).1 in
          let one : open_attempts (s.trains t) ≡ 1 = ap (λ b. cond b 1 0) (passing_open (s.trains t).job (s.trains t).waits passes_now) in
          omega arith

      standing : is_passing (s.trains t) ≡ false → (b : Bool) → has_passed (s.trains t).job ≡ b
          → steps_made (s.run t) ≤ (s.trains t).step + open_attempts (s.trains t)
      standing stands false is = let place = made_standing stands ∙ ap (λ b. cond b ((s.trains t).step + 1) (s.trains t).step) is in omega arith
      standing stands true is =
          let place = made_standing stands ∙ ap (λ b. cond b ((s.trains t).step + 1) (s.trains t).step) is in
          let one : open_attempts (s.trains t) ≡ 1 = ap (λ b. cond b 1 0) (passed_open (s.trains t).job (s.trains t).waits is) in
          omega arith

  -- and so is a refusal that it has not heard yet
  none_unheard : is_no (s.mail t) ≡ false → steps_made (s.run t) + refusals_said s t ≤ (s.trains t).step + (s.trains t).refused + open_attempts (s.trains t)
  none_unheard none =
      let made = made_within in
      let refused : refusals_said s t ≡ (s.trains t).refused + 0 = ap (λ b. (s.trains t).refused + cond b 1 0) none in
      omega arith

  one_unheard : (k : Letter) (u : TrainId) → s.mail t ≡ No k u → asks (s.trains t) ≡ true
      → steps_made (s.run t) + refusals_said s t ≤ (s.trains t).step + (s.trains t).refused + open_attempts (s.trains t)
  one_unheard k u is asking =
      let m = s.trains t in
      let parts = and_parts m.waits (not (is_pass m.job)) asking in
      let stays : is_pass m.job ≡ false = not-true (is_pass m.job) parts.1 in
      let letter = letter_there m.job (row_of line t m) (agrees.attempts t).ahead stays in
      let carried : Carries (No k u) letter.0 = subst (λ v. Carries v letter.0) is (agrees.mailboxes.letter t letter.0 parts.0 letter.1) in
      let may : IsRefusable letter.0.verb = subst (λ l. IsRefusable l.verb) carried.0 carried.1 in
      let found = refusable_open m.job (row_of line t m) letter.0 letter.1 may in
      let stands : is_passing m ≡ false = ap (λ w. w && is_pass m.job) parts.0 ∙ stays in
      let made : steps_made (s.run t) ≡ m.step = made_standing stands ∙ ap (λ b. cond b (m.step + 1) m.step) found.1 in
      let opened : is_open m.job m.waits ≡ true = ap (λ w. is_open m.job w) parts.0 ∙ found.0 in
      let one : open_attempts m ≡ 1 = ap (λ b. cond b 1 0) opened in
      let refused : refusals_said s t ≡ m.refused + 1 = ap (λ v. m.refused + cond (is_no v) 1 0) is in
      omega arith

  refused_within : (v : MailWord) → s.mail t ≡ v
      → steps_made (s.run t) + refusals_said s t ≤ (s.trains t).step + (s.trains t).refused + open_attempts (s.trains t)
  refused_within Empty is = none_unheard (ap is_no is)
  refused_within (Ask l) is = none_unheard (ap is_no is)
  refused_within (Taken l) is = none_unheard (ap is_no is)
  refused_within (Yes l) is = none_unheard (ap is_no is)
  refused_within (No k u) is =
      ⊎_elim (one_unheard k u is) (λ idle. let empty = agrees.mailboxes.empty t idle in absurd (cc)) (cases_Bool (asks (s.trains t)))

  pub within_tries : steps_made (s.run t) + refusals_said s t ≤ tries
  within_tries =
      let made = refused_within (s.mail t) refl in
      let total = (agrees.attempts t).total in
      omega arith

  module _ (rests : at_rest line t (s.trains t) ≡ true) where
    -- at rest every step is counted, every refusal is heard, and no attempt is open
    pub rest_made : steps_made (s.run t) ≡ (s.trains t).step
    rest_made = ap steps_made (rest_run line tries s agrees t rests)

    pub rest_refused : refusals_said s t ≡ (s.trains t).refused
    rest_refused = ap (λ v. (s.trains t).refused + cond (is_no v) 1 0) (rest_mail line tries s agrees t rests) ∙ omega arith

    pub rest_total : (s.trains t).left + steps_made (s.run t) + refusals_said s t ≡ tries
    rest_total =
        let parts = and_parts _ _ (and_parts _ _ rests).0 in
        let idle : (s.trains t).waits ≡ false = not-true _ parts.0 in
        let begun : is_open (s.trains t).job (s.trains t).waits ≡ (s.trains t).waits = open_begun (s.trains t).job (s.trains t).waits parts.1 in
        let shut : is_open (s.trains t).job (s.trains t).waits ≡ false = begun ∙ idle in
        let closed : open_attempts (s.trains t) ≡ 0 = ap (λ b. cond b 1 0) shut in
        let total = (agrees.attempts t).total in
        omega (arith, rest_made, rest_refused)
