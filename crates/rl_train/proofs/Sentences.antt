-- The function gives exactly the steps of the sentences.
use Rattle.std.proofs.Common.{◌≡◌, ℕ, ◌+◌, ◌==◌, true, false, not, ◌&&◌, ◌||◌, Option, Some, None, refl, sym, ap, subst, ◌∙◌}
use Rattle.std.specs.Prelude.{option_and_then}
use Rattle.std.specs.Option.{option_map_or}
use Rattle.std.proofs.lemmas.Bool.{and_parts, and_from, or_parts, or_from, eqb-true, eq-eqb, not-true, not_from_false}
use Rattle.std.proofs.lemmas.Option.{same_Some}
use Rattle.rl_base.specs.declared.ids.TrainId.{TrainId}
use Rattle.rl_base.specs.declared.job.Job.{Job}
use Rattle.rl_base.specs.declared.job.Job.TheVariants.{Near, Far, Near2, Far2, Lock, Pass, Unlock, FreeNear, FreeFar, DropFar2, DropNear2, DropFar, DropNear}
use Rattle.rl_words.specs.declared.mail.Letter.{Letter}
use Rattle.rl_words.specs.declared.mail.MailWord.{MailWord}
use Rattle.rl_words.specs.declared.mail.MailWord.TheVariants.{Empty, Ask, Taken, Yes, No}
use Rattle.rl_words.specs.declared.run.RunWord.{RunWord}
use Rattle.rl_words.specs.declared.run.RunWord.TheVariants.{Clear, Go, Across}
use Rattle.rl_words.specs.declared.sense.SenseWord.{SenseWord}
use Rattle.rl_words.specs.declared.sense.SenseWord.TheVariants.{Quiet, Head, Tail}
use Rattle.rl_words.specs.Mail.{same_letter}
use Rattle.rl_words.specs.Word.{Word}
use Rattle.rl_words.specs.Word.Word.{Resv, Lock as LockOf, Mail, Run, Sense}
use Rattle.rl_words.proofs.PackedSteps.{guarded, unless, mapped, followed}
use Rattle.rl_tables.specs.declared.table.StepRow.{StepRow}
use Rattle.rl_tables.specs.declared.table.TrainTable.{TrainTable}
use Rattle.rl_train.specs.declared.mind.TrainMind.{TrainMind}
use Rattle.rl_train.specs.Jobs.{letter, asks, is_pass}
use Rattle.rl_train.specs.Mind.{row_of, looks_on, at_rest}
use Rattle.rl_train.specs.Steps.{posted, heard, denied, TrainStep, mail_turn, on_mail, on_run, on_sense, train_on}
use Rattle.rl_train.specs.Steps.TrainStep.{post, hear_yes, hear_no, go, quiet}

-- what compares letters, as a law of the words says
abbrev pub ComparesLetters : Type 0
ComparesLetters = (a c : Letter) → same_letter a c ≡ true → a ≡ c

abbrev pub ComparesItself : Type 0
ComparesItself = (a : Letter) → same_letter a a ≡ true

train_same : (t u : TrainId) → (t.0 == u.0) ≡ true → t ≡ u
train_same t u e = let id : ℕ → TrainId = λ n. record { 0 = n } in ap id (eqb-true t.0 u.0 e)

-- the letter by which a job asks is its own
asked : ComparesLetters → (own : Option Letter) (l : Letter) → option_map_or (λ a. same_letter a l) own false ≡ true → own ≡ Some l
asked same None l e = absurd (cc)
asked same (Some a) l e = ap Some (same a l e)

pass_is : (job : Job) → is_pass job ≡ true → job ≡ Pass
unfolding is_pass
pass_is Near e = absurd (cc)
pass_is Far e = absurd (cc)
pass_is Near2 e = absurd (cc)
pass_is Far2 e = absurd (cc)
pass_is Lock e = absurd (cc)
pass_is Pass e = refl
pass_is Unlock e = absurd (cc)
pass_is FreeNear e = absurd (cc)
pass_is FreeFar e = absurd (cc)
pass_is DropFar2 e = absurd (cc)
pass_is DropNear2 e = absurd (cc)
pass_is DropFar e = absurd (cc)
pass_is DropNear e = absurd (cc)

-- From the function to the sentences.
module _ (table : TrainTable) (mind : TrainMind) where
  abbrev Mails : MailWord → MailWord × TrainMind → Type 0
  Mails v r = TrainStep table mind (Mail table.number v) (Mail table.number r.0) r.1

  mail_front : ComparesLetters → (v : MailWord) (row : StepRow) (r : MailWord × TrainMind) → row_of table mind ≡ Some row → mail_turn table mind v row ≡ Some r
      → Mails v r
  mail_front same Empty row r here e =
      let off = unless _ _ _ e in
      let tests = or_parts mind.waits _ off.0 in
      let m = mapped _ _ _ off.1 in
      subst (Mails Empty) m.2 (post row m.0 here m.1 tests.0 tests.1)
  mail_front same (Ask l) row r here e = absurd (cc)
  mail_front same (Taken l) row r here e = absurd (cc)
  mail_front same (Yes l) row r here e =
      let on = guarded _ _ _ e in
      let tests = and_parts mind.waits _ on.0 in
      let own = asked same (letter row mind.job) l tests.1 in
      subst (Mails (Yes l)) (same_Some _ r on.1) (hear_yes row l here own tests.0)
  mail_front same (No l u) row r here e =
      let on = guarded _ _ _ e in
      let tests = and_parts mind.waits _ on.0 in
      let own = asked same (letter row mind.job) l tests.1 in
      let m = mapped _ _ _ on.1 in
      subst (Mails (No l u)) m.2 (hear_no row l u m.0 here own m.1 tests.0)

  on_mail_front : ComparesLetters → (v : MailWord) (r : MailWord × TrainMind) → on_mail table mind v ≡ Some r → Mails v r
  on_mail_front same v r e = let f = followed _ _ _ e in mail_front same v f.0 r f.1 f.2

  abbrev Runs : RunWord → RunWord × TrainMind → Type 0
  Runs v r = TrainStep table mind (Run table.number v) (Run table.number r.0) r.1

  on_run_front : (v : RunWord) (r : RunWord × TrainMind) → on_run mind v ≡ Some r → Runs v r
  on_run_front (Clear k) r e =
      let on = guarded _ _ _ e in
      let job = and_parts (is_pass mind.job) _ on.0 in
      let rest = and_parts (not mind.waits) _ job.1 in
      let at : mind.step ≡ k = sym (eqb-true k mind.step rest.1) in
      let step : ℕ → Type 0 = λ n. Runs (Clear n) (Go n, record mind { waits = true }) in
      subst (Runs (Clear k)) (same_Some _ r on.1) (subst step at (go (pass_is mind.job job.0) (not-true _ rest.0)))
  on_run_front (Go k) r e = absurd (cc)
  on_run_front (Across k) r e = absurd (cc)

  abbrev Senses : SenseWord → SenseWord × TrainMind → Type 0
  Senses v r = TrainStep table mind (Sense table.number v) (Sense table.number r.0) r.1

  on_sense_front : (v : SenseWord) (r : SenseWord × TrainMind) → on_sense mind v ≡ Some r → Senses v r
  on_sense_front (Quiet k) r e = absurd (cc)
  on_sense_front (Head k) r e = absurd (cc)
  on_sense_front (Tail k) r e =
      let on = guarded _ _ _ e in
      let job = and_parts (is_pass mind.job) _ on.0 in
      let rest = and_parts mind.waits _ job.1 in
      let at : mind.step ≡ k = sym (eqb-true k mind.step rest.1) in
      let step : ℕ → Type 0 = λ n. Senses (Tail n) (Quiet (n + 1), record mind { waits = false; job = Unlock }) in
      subst (Senses (Tail k)) (same_Some _ r on.1) (subst step at (quiet (pass_is mind.job job.0) rest.0))

  front : ComparesLetters → (word : Word) (r : Word × TrainMind) → train_on table mind word ≡ Some r → TrainStep table mind word r.0 r.1
  front same (Resv b v) r e = absurd (cc)
  front same (LockOf b v) r e = absurd (cc)
  front same (Mail t v) r e =
      let on = guarded _ _ _ e in
      let m = mapped _ _ _ on.1 in
      let own : table.number ≡ t = sym (train_same t table.number on.0) in
      let of : TrainId → Type 0 = λ u. TrainStep table mind (Mail u v) (Mail u m.0.0) m.0.1 in
      let to : Word × TrainMind → Type 0 = λ q. TrainStep table mind (Mail t v) q.0 q.1 in
      subst to m.2 (subst of own (on_mail_front same v m.0 m.1))
  front same (Run t v) r e =
      let on = guarded _ _ _ e in
      let m = mapped _ _ _ on.1 in
      let own : table.number ≡ t = sym (train_same t table.number on.0) in
      let of : TrainId → Type 0 = λ u. TrainStep table mind (Run u v) (Run u m.0.0) m.0.1 in
      let to : Word × TrainMind → Type 0 = λ q. TrainStep table mind (Run t v) q.0 q.1 in
      subst to m.2 (subst of own (on_run_front v m.0 m.1))
  front same (Sense t v) r e =
      let on = guarded _ _ _ e in
      let m = mapped _ _ _ on.1 in
      let own : table.number ≡ t = sym (train_same t table.number on.0) in
      let of : TrainId → Type 0 = λ u. TrainStep table mind (Sense u v) (Sense u m.0.0) m.0.1 in
      let to : Word × TrainMind → Type 0 = λ q. TrainStep table mind (Sense t v) q.0 q.1 in
      subst to m.2 (subst of own (on_sense_front v m.0 m.1))

pub train_front : ComparesLetters → (table : TrainTable) (mind : TrainMind) (word next : Word) (after : TrainMind)
    → train_on table mind word ≡ Some (next, after) → TrainStep table mind word next after
train_front same table mind word next after e = front table mind same word (next, after) e

-- From the sentences to the function.
itself : (n : ℕ) → (n == n) ≡ true
itself n = eq-eqb n n refl

asks_own : ComparesItself → (own : Option Letter) (l : Letter) → own ≡ Some l → option_map_or (λ a. same_letter a l) own false ≡ true
asks_own same own l e = let letter = same l in rw (e, letter) refl

module _ (table : TrainTable) (mind : TrainMind) where
  mail_back : (v : MailWord) (row : StepRow) (r : MailWord × TrainMind) → row_of table mind ≡ Some row → mail_turn table mind v row ≡ Some r
      → train_on table mind (Mail table.number v) ≡ Some (Mail table.number r.0, r.1)
  mail_back v row r here e =
      let on : on_mail table mind v ≡ Some r = ap (option_and_then (mail_turn table mind v)) here ∙ e in
      rw (itself table.number.0, on) refl

  run_back : (v : RunWord) (r : RunWord × TrainMind) → on_run mind v ≡ Some r → train_on table mind (Run table.number v) ≡ Some (Run table.number r.0, r.1)
  run_back v r e = rw (itself table.number.0, e) refl

  sense_back : (v : SenseWord) (r : SenseWord × TrainMind) → on_sense mind v ≡ Some r
      → train_on table mind (Sense table.number v) ≡ Some (Sense table.number r.0, r.1)
  sense_back v r e = rw (itself table.number.0, e) refl

  back : ComparesItself → (word next : Word) (after : TrainMind) → TrainStep table mind word next after → train_on table mind word ≡ Some (next, after)
  unfolding is_pass
  back same _ _ _ (post row l here is waits rests) =
      let off : (mind.waits || at_rest table mind) ≡ false = or_from mind.waits _ waits rests in
      mail_back Empty row (Ask l, posted mind) here (rw (off, is) refl)
  back same _ _ _ (hear_yes row l here is waits) =
      let on : (mind.waits && asks row mind.job l) ≡ true = and_from mind.waits _ waits (asks_own same (letter row mind.job) l is) in
      mail_back (Yes l) row (Empty, heard row (looks_on table mind) mind) here (rw on refl)
  back same _ _ _ (hear_no row l u next here is then_job waits) =
      let on : (mind.waits && asks row mind.job l) ≡ true = and_from mind.waits _ waits (asks_own same (letter row mind.job) l is) in
      mail_back (No l u) row (Empty, denied next mind) here (rw (on, then_job) refl)
  back same _ _ _ (go is waits) =
      let on : (is_pass mind.job && (not mind.waits && mind.step == mind.step)) ≡ true =
      and_from _ _ (ap is_pass is) (and_from _ _ (not_from_false _ waits) (itself mind.step)) in
      run_back (Clear mind.step) (Go mind.step, record mind { waits = true }) (rw on refl)
  back same _ _ _ (quiet is waits) =
      let on : (is_pass mind.job && (mind.waits && mind.step == mind.step)) ≡ true = and_from _ _ (ap is_pass is) (and_from _ _ waits (itself mind.step)) in
      sense_back (Tail mind.step) (Quiet (mind.step + 1), record mind { waits = false; job = Unlock }) (rw on refl)

pub train_back : ComparesItself → (table : TrainTable) (mind : TrainMind) (word next : Word) (after : TrainMind) → TrainStep table mind word next after
    → train_on table mind word ≡ Some (next, after)
train_back same table mind word next after p = back table mind same word next after p
