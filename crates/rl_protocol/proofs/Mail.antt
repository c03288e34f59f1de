-- Every step keeps the agreement on mailboxes.
use Rattle.std.proofs.Common.{◌≡◌, ◌≢◌, ℕ, true, false, Some, refl, sym, ap, ◌∙◌, inr, ⊎_elim, arith}
use Rattle.std.proofs.lemmas.Bool.{cases_eq}
use Rattle.std.proofs.lemmas.Bool.Decides.{nat_tests}
use Rattle.rl_base.specs.declared.ids.TrainId.{TrainId}
use Rattle.rl_base.specs.declared.job.Verb.TheVariants as verbs
use Rattle.rl_base.specs.declared.kind.Side.{Side}
use Rattle.rl_words.specs.declared.mail.MailWord.TheVariants.{Empty, Taken}
use Rattle.rl_words.specs.declared.mail.Letter.{Letter}
use Rattle.rl_words.specs.declared.lock.Path.{Path}
use Rattle.rl_box.specs.declared.mind.Answer.{Answer}
use Rattle.rl_box.specs.declared.mind.Work.TheVariants.{Serve, Say}
use Rattle.rl_protocol.specs.Line.{Line}
use Rattle.rl_protocol.specs.State.{State}
use Rattle.rl_box.specs.Steps.{path_of}
use Rattle.rl_protocol.specs.Minds.{letter_of, letter_of_path, train}
use Rattle.rl_protocol.specs.Steps.{Step, post, hear_yes, hear_no, go, quiet, take, grant, refuse, release, lock_now, lock_ask, lock_moved, unlock, say_yes}
use Rattle.rl_protocol.specs.Steps.{say_no, busy, throw, settle, enter, head, leave, tail, StepFits, next}
use Rattle.rl_protocol.specs.Agreement.{asks, Carries, IsAtWork, AgreesOnMailboxes}
use Rattle.rl_protocol.proofs.Jobs.{letter_not_passing}
use Rattle.rl_protocol.proofs.Known.{Known, HasTaken}

empty_kept : (line : Line) (s : State) (step : Step) (t : ℕ) → (asks (s.trains t) ≡ false → s.mail t ≡ Empty) → StepFits line s step
    → asks ((next line s step).trains t) ≡ false → (next line s step).mail t ≡ Empty
empty_kept line s step t old fits h = grind (arith, nat_tests, letter_not_passing)

letter_kept : (line : Line) (s : State) (step : Step) (t : ℕ) (l : Letter)
    → ((s.trains t).waits ≡ true → letter_of line t (s.trains t) ≡ Some l → Carries (s.mail t) l) → StepFits line s step → Known line s step
    → ((next line s step).trains t).waits ≡ true → letter_of line t ((next line s step).trains t) ≡ Some l → Carries ((next line s step).mail t) l
letter_kept line s step t l old fits known h k = grind (arith, nat_tests, letter_not_passing)

-- who asks for a path
asked_letter : (b t : ℕ) (l : Letter) → l.to.0 ≡ b → l.verb ≡ verbs.Lock → l ≡ letter_of_path b (path_of (train t) l)
asked_letter b t l to verb = grind arith

asked_kept : (line : Line) (s : State) (b t' : ℕ) (l' : Letter) (side : Side) (t : ℕ) (l : Letter) → (s.mail t ≡ Taken l → IsAtWork (s.boxes l.to.0) l.to.0 t l)
    → StepFits line s (lock_ask b t' l' side) → HasTaken line s b t' l' → (next line s (lock_ask b t' l' side)).mail t ≡ Taken l
    → IsAtWork ((next line s (lock_ask b t' l' side)).boxes l.to.0) l.to.0 t l
asked_kept line s b t' l' side t l old fits known h =
    ⊎_elim
    (λ e.
    let same : l ≡ l' = grind (arith, nat_tests) in
    let here : l.to.0 ≡ b = grind (arith, nat_tests) in
    let verb : l.verb ≡ verbs.Lock = grind (arith, nat_tests) in
    let waiting : ((next line s (lock_ask b t' l' side)).boxes l.to.0).waiting ≡ Some (path_of (train t') l') = grind (arith, nat_tests) in
    let path : path_of (train t') l' ≡ path_of (train t') l = ap (path_of (train t')) (sym same) in
    inr (inr (path_of (train t') l', waiting, sym e, asked_letter l.to.0 t' l refl verb ∙ ap (letter_of_path l.to.0) (sym path))))
    (λ e. grind (arith, nat_tests))
    (cases_eq t t')

taken_kept : (line : Line) (s : State) (step : Step) (t : ℕ) (l : Letter) → (s.mail t ≡ Taken l → IsAtWork (s.boxes l.to.0) l.to.0 t l) → StepFits line s step
    → Known line s step → (next line s step).mail t ≡ Taken l → IsAtWork ((next line s step).boxes l.to.0) l.to.0 t l
taken_kept line s (post t' l') t l old fits known h = grind (arith, nat_tests)
taken_kept line s (hear_yes t' l') t l old fits known h = grind (arith, nat_tests)
taken_kept line s (hear_no t' l' u job) t l old fits known h = grind (arith, nat_tests)
taken_kept line s (go t') t l old fits known h = grind (arith, nat_tests)
taken_kept line s (quiet t') t l old fits known h = grind (arith, nat_tests)
taken_kept line s (take b t' l') t l old fits known h = grind (arith, nat_tests)
taken_kept line s (grant b t' l') t l old fits known h = grind (arith, nat_tests)
taken_kept line s (refuse b t' l' u) t l old fits known h = grind (arith, nat_tests)
taken_kept line s (release b t' l') t l old fits known h = grind (arith, nat_tests)
taken_kept line s (lock_now b t' l' side) t l old fits known h = grind (arith, nat_tests)
taken_kept line s (lock_ask b t' l' side) t l old fits known h = asked_kept line s b t' l' side t l old fits known h
taken_kept line s (lock_moved b p) t l old fits known h = grind (arith, nat_tests)
taken_kept line s (unlock b t' l' side) t l old fits known h = grind (arith, nat_tests)
taken_kept line s (say_yes b t' l') t l old fits known h = grind (arith, nat_tests)
taken_kept line s (say_no b t' l' u) t l old fits known h = grind (arith, nat_tests)
taken_kept line s (busy b t' l' p) t l old fits known h = grind (arith, nat_tests)
taken_kept line s (throw b p) t l old fits known h = grind (arith, nat_tests)
taken_kept line s (settle b p) t l old fits known h = grind (arith, nat_tests)
taken_kept line s (enter t' k) t l old fits known h = grind (arith, nat_tests)
taken_kept line s (head t' k) t l old fits known h = grind (arith, nat_tests)
taken_kept line s (leave t' k) t l old fits known h = grind (arith, nat_tests)
taken_kept line s (tail t' k) t l old fits known h = grind (arith, nat_tests)

module _ (line : Line) (s : State) (step : Step) (old : AgreesOnMailboxes line s) (fits : StepFits line s step) (known : Known line s step) where
  serves_kept : (b : ℕ) (t : TrainId) (l : Letter) → ((next line s step).boxes b).work ≡ Serve t l → ((next line s step).mail t.0 ≡ Taken l) × (l.to.0 ≡ b)
  serves_kept b t l h = grind (arith, nat_tests, old.serves b t l)

  says_kept : (b : ℕ) (t : TrainId) (l : Letter) (a : Answer) → ((next line s step).boxes b).work ≡ Say t l a
      → ((next line s step).mail t.0 ≡ Taken l) × (l.to.0 ≡ b)
  says_kept b t l a h = grind (arith, nat_tests, old.serves b t l, old.says b t l a)

  waits_kept : (b : ℕ) (p : Path) → ((next line s step).boxes b).waiting ≡ Some p → (next line s step).mail p.train.0 ≡ Taken (letter_of_path b p)
  waits_kept b p h = grind (arith, nat_tests, old.waits b p, old.serves b p.train, old.says_one b p.train)

  serves_one_kept : (b : ℕ) (t : TrainId) (l : Letter) (p : Path) → ((next line s step).boxes b).work ≡ Serve t l
      → ((next line s step).boxes b).waiting ≡ Some p → p.train.0 ≢ t.0
  serves_one_kept b t l p h k = λ e. grind (arith, nat_tests, old.waits b p, old.serves b t l, old.serves_one b t l p)

  says_one_kept : (b : ℕ) (t : TrainId) (l : Letter) (a : Answer) (p : Path) → ((next line s step).boxes b).work ≡ Say t l a
      → ((next line s step).boxes b).waiting ≡ Some p → p.train.0 ≢ t.0
  says_one_kept b t l a p h k = λ e. grind (arith, nat_tests, old.waits b p, old.serves b t l, old.serves_one b t l p, old.says_one b t l a p)

  pub mailboxes_kept : AgreesOnMailboxes line (next line s step)
  mailboxes_kept =
      record {
        empty = λ t h. empty_kept line s step t (old.empty t) fits h;
        letter = λ t l h k. letter_kept line s step t l (old.letter t l) fits known h k;
        taken = λ t l h. taken_kept line s step t l (old.taken t l) fits known h;
        serves = serves_kept;
        says = says_kept;
        waits = waits_kept;
        serves_one = serves_one_kept;
        says_one = says_one_kept;
      }
