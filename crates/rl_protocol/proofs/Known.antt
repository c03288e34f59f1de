-- What is known of a step besides what it finds, in a state that agrees: the letter in hand is that of its train.
use Rattle.std.proofs.Common.{◌≡◌, ◌≢◌, ℕ, true, false, Option, Some, None, refl, sym, ap, ◌∙◌, subst, arith}
use Rattle.std.proofs.lemmas.Bool.{ne_eqb}
use Rattle.std.proofs.lemmas.Bool.Decides.{nat_tests}
use Rattle.rl_words.specs.declared.mail.MailWord.TheVariants.{Empty, Ask, Taken, Yes}
use Rattle.rl_words.specs.declared.mail.Letter.{Letter}
use Rattle.rl_words.specs.declared.lock.Path.{Path}
use Rattle.rl_box.specs.declared.mind.Answer.TheVariants as answers
use Rattle.rl_protocol.specs.Line.{Line}
use Rattle.rl_train.specs.Jobs.{looks_ahead, is_pass, names_next}
use Rattle.rl_protocol.specs.State.{State}
use Rattle.rl_protocol.specs.Minds.{row_of, letter_of, letter_of_path, train}
use Rattle.rl_protocol.specs.Steps.{Step, post, hear_yes, hear_no, go, quiet, take, grant, refuse, release, lock_now, lock_ask, lock_moved, unlock, say_yes}
use Rattle.rl_protocol.specs.Steps.{say_no, busy, throw, settle, enter, head, leave, tail, StepFits}
use Rattle.rl_protocol.specs.Held.{is_path_of}
use Rattle.rl_protocol.specs.Agreement.{asks, Carries, AgreesOnMailboxes, AgreesOnLocks, path_in_setting}
use Rattle.rl_protocol.proofs.Jobs.{letter_not_passing, letter_there}

-- a job about the segment after the next one is at a row that looks ahead, as the trains' attempts say
abbrev pub AreAtNext : Line → State → Type 0
AreAtNext line s = (t : ℕ) → names_next (s.trains t).job ≡ true → looks_ahead (row_of line t (s.trains t)) ≡ true

-- train t waits for the answer to the letter
pub record Waits (line : Line) (s : State) (t : ℕ) (l : Letter) : Type 0 where
  pub waits : (s.trains t).waits ≡ true
  pub active : is_pass (s.trains t).job ≡ false
  pub letter : letter_of line t (s.trains t) ≡ Some l

-- box b has taken the letter of train t
pub record HasTaken (line : Line) (s : State) (b t : ℕ) (l : Letter) : Type 0 where
  pub mail : s.mail t ≡ Taken l
  pub to : l.to.0 ≡ b
  pub waits : (s.trains t).waits ≡ true
  pub active : is_pass (s.trains t).job ≡ false
  pub letter : letter_of line t (s.trains t) ≡ Some l

abbrev pub Known : Line → State → Step → Type 0
Known line s (post t l) = is_pass (s.trains t).job ≡ false
Known line s (hear_yes t l) = is_pass (s.trains t).job ≡ false
Known line s (hear_no t l u job) = is_pass (s.trains t).job ≡ false
Known line s (go t) = s.mail t ≡ Empty
Known line s (quiet t) = s.mail t ≡ Empty
Known line s (take b t l) = Waits line s t l × (is_path_of t (s.boxes b).waiting ≡ false)
Known line s (grant b t l) = HasTaken line s b t l × (is_path_of t (s.boxes b).waiting ≡ false)
Known line s (refuse b t l u) = HasTaken line s b t l × (is_path_of t (s.boxes b).waiting ≡ false)
Known line s (release b t l) = HasTaken line s b t l × (is_path_of t (s.boxes b).waiting ≡ false)
Known line s (lock_now b t l side) = HasTaken line s b t l
Known line s (lock_ask b t l side) = HasTaken line s b t l
Known line s (lock_moved b p) = HasTaken line s b p.train.0 (letter_of_path b p)
Known line s (unlock b t l side) = HasTaken line s b t l
Known line s (say_yes b t l) = HasTaken line s b t l × (is_path_of t (s.boxes b).waiting ≡ false)
Known line s (say_no b t l u) = HasTaken line s b t l × (is_path_of t (s.boxes b).waiting ≡ false)
Known line s (busy b t l p) = HasTaken line s b t l
Known line s (throw b p) = ((s.boxes b).waiting ≡ Some p) × HasTaken line s b p.train.0 (letter_of_path b p)
Known line s (settle b p) = ((s.boxes b).waiting ≡ Some p) × HasTaken line s b p.train.0 (letter_of_path b p)
Known line s (enter t k) = Unit {0}
Known line s (head t k) = Unit {0}
Known line s (leave t k) = Unit {0}
Known line s (tail t k) = Unit {0}

-- whose mailbox isn't empty waits for the answer to a letter
asking : (line : Line) (s : State) (t : ℕ) → AgreesOnMailboxes line s → (s.mail t ≡ Empty → ⊥) → asks (s.trains t) ≡ true
asking line s t old full = grind (arith, nat_tests, old.empty t)

-- a mailbox that carries its letter once it carries any carries this one
waiting_for : (line : Line) (s : State) (t : ℕ) (l : Letter) → AgreesOnMailboxes line s → AreAtNext line s → (s.mail t ≡ Empty → ⊥)
    → ((k : Letter) → Carries (s.mail t) k → l ≡ k) → Waits line s t l
waiting_for line s t l old next full same =
    let full : asks (s.trains t) ≡ true = asking line s t old full in
    let waits : (s.trains t).waits ≡ true = grind (arith, nat_tests) in
    let active : is_pass (s.trains t).job ≡ false = grind (arith, nat_tests) in
    let there = letter_there (s.trains t).job (line.row t (s.trains t).step) (next t) active in
    record {
      waits = waits;
      active = active;
      letter =
          subst (λ k. letter_of line t (s.trains t) ≡ Some k) (sym (same there.0 (old.letter t there.0 waits there.1))) there.1;
    }

pub asked : (line : Line) (s : State) (t : ℕ) (l : Letter) → AgreesOnMailboxes line s → AreAtNext line s → s.mail t ≡ Ask l → Waits line s t l
asked line s t l old next h = waiting_for line s t l old next (λ e. cc) (λ k c. subst (λ m. Carries m k) h c)

pub answered : (line : Line) (s : State) (t : ℕ) (l : Letter) → AgreesOnMailboxes line s → AreAtNext line s → s.mail t ≡ Yes l → Waits line s t l
answered line s t l old next h = waiting_for line s t l old next (λ e. cc) (λ k c. subst (λ m. Carries m k) h c)

pub taken : (line : Line) (s : State) (b t : ℕ) (l : Letter) → AgreesOnMailboxes line s → AreAtNext line s → (s.mail t ≡ Taken l) × (l.to.0 ≡ b)
    → HasTaken line s b t l
taken line s b t l old next h =
    let it = waiting_for line s t l old next (λ e. cc) (λ k c. subst (λ m. Carries m k) h.0 c) in
    record { mail = h.0; to = h.1; waits = it.waits; active = it.active; letter = it.letter }

-- box b waits for the path of a letter that it has taken
pub taken_path : (line : Line) (s : State) (b : ℕ) (p : Path) → AgreesOnMailboxes line s → AreAtNext line s → (s.boxes b).waiting ≡ Some p
    → HasTaken line s b p.train.0 (letter_of_path b p)
taken_path line s b p old next h = taken line s b p.train.0 (letter_of_path b p) old next (old.waits b p h, refl)

-- a path that is none of train t
path_of_other : (t : ℕ) (o : Option Path) → ((p : Path) → o ≡ Some p → p.train.0 ≢ t) → is_path_of t o ≡ false
path_of_other t None h = refl
path_of_other t (Some p) h = ne_eqb p.train.0 t (h p refl)

pub known : (line : Line) (s : State) (step : Step) → AgreesOnMailboxes line s → AreAtNext line s → AgreesOnLocks line s → StepFits line s step → Known line s step
known line s (post t l) old next locks fits = letter_not_passing (s.trains t).job _ l fits.2
known line s (hear_yes t l) old next locks fits = letter_not_passing (s.trains t).job _ l fits.1
known line s (hear_no t l u job) old next locks fits = letter_not_passing (s.trains t).job _ l fits.1
known line s (go t) old next locks fits = old.empty t (grind (arith, nat_tests))
known line s (quiet t) old next locks fits = old.empty t (grind (arith, nat_tests))
known line s (take b t l) old next locks fits =
    (asked line s t l old next fits.1, path_of_other t (s.boxes b).waiting (λ p h e. cc (old.waits b p h, ap s.mail e, fits.1)))
known line s (grant b t l) old next locks fits =
    (taken line s b t l old next (old.serves b (train t) l fits.0), path_of_other t (s.boxes b).waiting (λ p h. old.serves_one b (train t) l p fits.0 h))
known line s (refuse b t l u) old next locks fits =
    (taken line s b t l old next (old.serves b (train t) l fits.0), path_of_other t (s.boxes b).waiting (λ p h. old.serves_one b (train t) l p fits.0 h))
known line s (release b t l) old next locks fits =
    (taken line s b t l old next (old.serves b (train t) l fits.0), path_of_other t (s.boxes b).waiting (λ p h. old.serves_one b (train t) l p fits.0 h))
known line s (lock_now b t l side) old next locks fits = taken line s b t l old next (old.serves b (train t) l (ap (λ m. m.work) fits.0))
known line s (lock_ask b t l side) old next locks fits = taken line s b t l old next (old.serves b (train t) l (ap (λ m. m.work) fits.0))
known line s (lock_moved b p) old next locks fits = taken_path line s b p old next (ap (λ m. m.waiting) fits.0)
known line s (unlock b t l side) old next locks fits = taken line s b t l old next (old.serves b (train t) l (ap (λ m. m.work) fits.0))
known line s (say_yes b t l) old next locks fits = (
  taken line s b t l old next (old.says b (train t) l answers.Yes fits.0),
  path_of_other t (s.boxes b).waiting
      (λ p h. old.says_one b (train t) l answers.Yes p fits.0 h),
)
known line s (say_no b t l u) old next locks fits = (
  taken line s b t l old next (old.says b (train t) l (answers.No u) fits.0),
  path_of_other t (s.boxes b).waiting
      (λ p h. old.says_one b (train t) l (answers.No u) p fits.0 h),
)
known line s (busy b t l p) old next locks fits = taken line s b t l old next (old.serves b (train t) l (ap (λ m. m.work) fits.0))
known line s (throw b p) old next locks fits =
    let waits : (s.boxes b).waiting ≡ Some p = locks.waiting b ∙ ap path_in_setting fits in
    (waits, taken_path line s b p old next waits)
known line s (settle b p) old next locks fits =
    let waits : (s.boxes b).waiting ≡ Some p = locks.waiting b ∙ ap path_in_setting fits in
    (waits, taken_path line s b p old next waits)
known line s (enter t k) old next locks fits = tt
known line s (head t k) old next locks fits = tt
known line s (leave t k) old next locks fits = tt
known line s (tail t k) old next locks fits = tt
