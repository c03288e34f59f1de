-- Any word: its payload is read, small, and owned.
use Rattle.std.proofs.Common.{◌≡◌, ℕ, Option, Some, None, refl, ap, subst, arith}
use Rattle.std.specs.Prelude.{option_map}
use Rattle.rl_base.specs.declared.kind.Side.TheVariants.{Left, Right}
use Rattle.rl_base.specs.declared.layout.Layout.{Layout}
use Rattle.rl_base.specs.declared.layout.WordKind.{WordKind}
use Rattle.rl_base.specs.declared.layout.WordKind.TheVariants as kinds
use Rattle.rl_base.specs.Numbers.{IsU32}
use Rattle.rl_base.specs.Layout.{HasWord, HasNode, word_number, node_number}
use Rattle.rl_words.specs.declared.lock.LockWord.TheVariants.{Free, Asked, Moving, Moved, Locked}
use Rattle.rl_words.specs.declared.mail.MailWord.TheVariants.{Empty, Ask, Taken, Yes, No}
use Rattle.rl_words.specs.declared.run.RunWord.TheVariants.{Clear, Go, Across}
use Rattle.rl_words.specs.declared.sense.SenseWord.TheVariants.{Quiet, Head, Tail}
use Rattle.rl_words.specs.Owner.{MayChange, Owns}
use Rattle.rl_words.specs.Readings.{read_resv, read_lock, read_mail, read_run, read_sense}
use Rattle.rl_words.specs.Word.{Word, kind_of, FitsWord, packed_word, read_word, word_owner, IsReading}
use Rattle.rl_words.specs.Word.Word.{Resv, Lock, Mail, Run, Sense}
use Rattle.rl_words.proofs.MailLemmas.{verb_code-lt}
use Rattle.rl_words.proofs.ReadingLemmas.{read_resv-packed, read_lock-packed, read_mail-packed, read_run-packed, read_sense-packed, read_resv_only, read_lock_only, read_mail_only, read_run_only, read_sense_only}
use Rattle.rl_words.proofs.ResvLemmas.{arm_code-lt}

pub read_word-packed : (word : Word) → FitsWord word → read_word (kind_of word) (packed_word word) ≡ Some word
read_word-packed (Resv b v) fits = ap (option_map (Resv b)) (read_resv-packed v fits)
read_word-packed (Lock b v) fits = ap (option_map (Lock b)) (read_lock-packed v fits)
read_word-packed (Mail t v) fits = ap (option_map (Mail t)) (read_mail-packed v fits)
read_word-packed (Run t v) fits = ap (option_map (Run t)) (read_run-packed v fits)
read_word-packed (Sense t v) fits = ap (option_map (Sense t)) (read_sense-packed v fits)

-- what is mapped to a value is a value
mapped : {A B : Type 0} (f : A → B) (o : Option A) (y : B) → option_map f o ≡ Some y → (x : A) × (o ≡ Some x) × (f x ≡ y)
mapped f None y e = absurd (cc)
mapped f (Some x) y e = (x, refl, cc)

pub read_word_only : (kind : WordKind) (n : ℕ) (word : Word) → read_word kind n ≡ Some word → IsReading kind n word
read_word_only kinds.Still n word e = absurd (cc)
read_word_only (kinds.Resv b) n word e =
    let m = mapped (Resv b) (read_resv n) word e in
    let both = read_resv_only n m.0 m.1 in
    subst (IsReading (kinds.Resv b) n) m.2 (record { kind_is = refl; fits = both.0; packed = both.1 })
read_word_only (kinds.Lock b) n word e =
    let m = mapped (Lock b) (read_lock n) word e in
    let both = read_lock_only n m.0 m.1 in
    subst (IsReading (kinds.Lock b) n) m.2 (record { kind_is = refl; fits = both.0; packed = both.1 })
read_word_only (kinds.Mail t) n word e =
    let m = mapped (Mail t) (read_mail n) word e in
    let both = read_mail_only n m.0 m.1 in
    subst (IsReading (kinds.Mail t) n) m.2 (record { kind_is = refl; fits = both.0; packed = both.1 })
read_word_only (kinds.Run t) n word e =
    let m = mapped (Run t) (read_run n) word e in
    let both = read_run_only n m.0 m.1 in
    subst (IsReading (kinds.Run t) n) m.2 (record { kind_is = refl; fits = both.0; packed = both.1 })
read_word_only (kinds.Sense t) n word e =
    let m = mapped (Sense t) (read_sense n) word e in
    let both = read_sense_only n m.0 m.1 in
    subst (IsReading (kinds.Sense t) n) m.2 (record { kind_is = refl; fits = both.0; packed = both.1 })

pub packed_word-lt : (word : Word) → FitsWord word → IsU32 (packed_word word)
packed_word-lt (Resv b w) fits =
    let c0 = arm_code-lt w.arm0 fits.arm0 in
    let c1 = arm_code-lt w.arm1 fits.arm1 in
    let c2 = arm_code-lt w.arm2 fits.arm2 in
    let c3 = arm_code-lt w.arm3 fits.arm3 in
    omega arith
packed_word-lt (Lock b (Free Left)) fits = omega arith
packed_word-lt (Lock b (Free Right)) fits = omega arith
packed_word-lt (Lock b (Asked p)) fits = omega arith
packed_word-lt (Lock b (Moving p)) fits = omega arith
packed_word-lt (Lock b (Moved p)) fits = omega arith
packed_word-lt (Lock b (Locked p)) fits = omega arith
packed_word-lt (Mail t Empty) fits = omega arith
packed_word-lt (Mail t (Ask l)) fits = let verb = verb_code-lt l.verb in omega arith
packed_word-lt (Mail t (Taken l)) fits = let verb = verb_code-lt l.verb in omega arith
packed_word-lt (Mail t (Yes l)) fits = let verb = verb_code-lt l.verb in omega arith
packed_word-lt (Mail t (No l u)) fits = let verb = verb_code-lt l.verb in omega arith
packed_word-lt (Run t (Clear k)) fits = omega arith
packed_word-lt (Run t (Go k)) fits = omega arith
packed_word-lt (Run t (Across k)) fits = omega arith
packed_word-lt (Sense t (Quiet k)) fits = omega arith
packed_word-lt (Sense t (Head k)) fits = omega arith
packed_word-lt (Sense t (Tail k)) fits = omega arith

-- the owner may change the word
changes : (word : Word) → FitsWord word → MayChange (kind_of word) (packed_word word) (word_owner word)
changes (Resv b v) fits = (v, fits, refl, refl)
changes (Lock b v) fits = (v, fits, refl, refl)
changes (Mail t v) fits = (v, fits, refl, refl)
changes (Run t v) fits = (v, fits, refl, refl)
changes (Sense t v) fits = (v, fits, refl, refl)

pub word_owned : (lay : Layout) (word : Word) → HasWord lay (kind_of word) → HasNode lay (word_owner word) → FitsWord word
    → Owns lay (word_number lay (kind_of word)) (packed_word word) (node_number lay (word_owner word))
word_owned lay word there node fits =
    record {
      word = kind_of word;
      node = word_owner word;
      has_word = there;
      has_node = node;
      word_is = refl;
      node_is = refl;
      changes = changes word fits;
    }
