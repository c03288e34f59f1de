-- Two values of a word never share a packing.
use Rattle.std.proofs.Common.{◌≡◌, ℕ, Option, Some, None, refl, ap, arith}
use Rattle.rl_base.specs.declared.ids.Arm.{Arm}
use Rattle.rl_base.specs.declared.ids.BoxId.{BoxId}
use Rattle.rl_base.specs.declared.ids.TrainId.{TrainId}
use Rattle.rl_base.specs.declared.job.Verb.{Verb}
use Rattle.rl_base.specs.declared.job.Verb.TheVariants.{Reserve, Release, Lock, Unlock}
use Rattle.rl_base.specs.declared.kind.Side.TheVariants.{Left, Right}
use Rattle.rl_words.specs.declared.lock.LockWord.{LockWord}
use Rattle.rl_words.specs.declared.lock.LockWord.TheVariants.{Free, Asked, Moving, Moved, Locked}
use Rattle.rl_words.specs.declared.lock.Path.{Path}
use Rattle.rl_words.specs.declared.mail.Letter.{Letter}
use Rattle.rl_words.specs.declared.mail.MailWord.{MailWord}
use Rattle.rl_words.specs.declared.mail.MailWord.TheVariants.{Empty, Ask, Taken, Yes, No}
use Rattle.rl_words.specs.declared.resv.ResvWord.{ResvWord}
use Rattle.rl_words.specs.declared.run.RunWord.{RunWord}
use Rattle.rl_words.specs.declared.run.RunWord.TheVariants.{Clear, Go, Across}
use Rattle.rl_words.specs.declared.sense.SenseWord.{SenseWord}
use Rattle.rl_words.specs.declared.sense.SenseWord.TheVariants.{Quiet, Head, Tail}
use Rattle.rl_words.specs.Lock.{FitsPath, FitsLock, packed_path, packed_lock}
use Rattle.rl_words.specs.Mail.{FitsLetter, FitsMail, verb_code, packed_letter, packed_mail}
use Rattle.rl_words.specs.Resv.{FitsResv, arm_code, packed_resv}
use Rattle.rl_words.specs.Run.{FitsRun, packed_run}
use Rattle.rl_words.specs.Sense.{FitsSense, packed_sense}
use Rattle.rl_words.proofs.MailLemmas.{verb_code-lt}
use Rattle.rl_words.proofs.ResvLemmas.{arm_code-lt}

-- an id is its number
same_train : (t u : TrainId) → t.0 ≡ u.0 → t ≡ u
same_train t u e = let id : ℕ → TrainId = λ n. record { 0 = n } in ap id e

same_box : (b c : BoxId) → b.0 ≡ c.0 → b ≡ c
same_box b c e = let id : ℕ → BoxId = λ n. record { 0 = n } in ap id e

same_arm : (x y : Arm) → x.0 ≡ y.0 → x ≡ y
same_arm x y e = let id : ℕ → Arm = λ n. record { 0 = n } in ap id e

-- two arms never share a code
same_holder : (a b : Option TrainId) → arm_code a ≡ arm_code b → a ≡ b
same_holder None None e = refl
same_holder None (Some u) e = absurd (omega arith)
same_holder (Some t) None e = absurd (omega arith)
same_holder (Some t) (Some u) e = ap Some (same_train t u (omega arith))

-- a word is its four arms
resv_parts : (a b c d a' b' c' d' : Option TrainId) → a ≡ a' → b ≡ b' → c ≡ c' → d ≡ d'
    → (let made : ResvWord = record { arm0 = a; arm1 = b; arm2 = c; arm3 = d } in made) ≡ record { arm0 = a'; arm1 = b'; arm2 = c'; arm3 = d' }
resv_parts a b c d a' b' c' d' ea eb ec ed = cc

pub same_resv : (v w : ResvWord) → FitsResv v → FitsResv w → packed_resv v ≡ packed_resv w → v ≡ w
same_resv v w fv fw e =
    let v0 = arm_code-lt v.arm0 fv.arm0 in
    let v1 = arm_code-lt v.arm1 fv.arm1 in
    let v2 = arm_code-lt v.arm2 fv.arm2 in
    let v3 = arm_code-lt v.arm3 fv.arm3 in
    let w0 = arm_code-lt w.arm0 fw.arm0 in
    let w1 = arm_code-lt w.arm1 fw.arm1 in
    let w2 = arm_code-lt w.arm2 fw.arm2 in
    let w3 = arm_code-lt w.arm3 fw.arm3 in
    resv_parts v.arm0 v.arm1 v.arm2 v.arm3 w.arm0 w.arm1 w.arm2 w.arm3
    (same_holder v.arm0 w.arm0 (omega arith))
    (same_holder v.arm1 w.arm1 (omega arith))
    (same_holder v.arm2 w.arm2 (omega arith))
    (same_holder v.arm3 w.arm3 (omega arith))

pub same_run : (v w : RunWord) → FitsRun v → FitsRun w → packed_run v ≡ packed_run w → v ≡ w
same_run (Clear j) (Clear k) fv fw e = ap Clear (omega arith)
same_run (Go j) (Go k) fv fw e = ap Go (omega arith)
same_run (Across j) (Across k) fv fw e = ap Across (omega arith)
same_run v w fv fw e = absurd (omega arith)

pub same_sense : (v w : SenseWord) → FitsSense v → FitsSense w → packed_sense v ≡ packed_sense w → v ≡ w
same_sense (Quiet j) (Quiet k) fv fw e = ap Quiet (omega arith)
same_sense (Head j) (Head k) fv fw e = ap Head (omega arith)
same_sense (Tail j) (Tail k) fv fw e = ap Tail (omega arith)
same_sense v w fv fw e = absurd (omega arith)

-- a path is its three parts
path_parts : (t t' : TrainId) (x x' y y' : Arm) → t ≡ t' → x ≡ x' → y ≡ y'
    → (let made : Path = record { train = t; x = x; y = y } in made) ≡ record { train = t'; x = x'; y = y' }
path_parts t t' x x' y y' et ex ey = cc

-- two paths never share their fields
same_path : (p q : Path) → FitsPath p → FitsPath q → packed_path p ≡ packed_path q → p ≡ q
same_path p q fp fq e =
    path_parts p.train q.train p.x q.x p.y q.y (same_train p.train q.train (omega arith)) (same_arm p.x q.x (omega arith)) (same_arm p.y q.y (omega arith))

pub same_lock : (v w : LockWord) → FitsLock v → FitsLock w → packed_lock v ≡ packed_lock w → v ≡ w
same_lock (Free Left) (Free Left) fv fw e = refl
same_lock (Free Right) (Free Right) fv fw e = refl
same_lock (Asked p) (Asked q) fv fw e = ap Asked (same_path p q fv fw (omega arith))
same_lock (Moving p) (Moving q) fv fw e = ap Moving (same_path p q fv fw (omega arith))
same_lock (Moved p) (Moved q) fv fw e = ap Moved (same_path p q fv fw (omega arith))
same_lock (Locked p) (Locked q) fv fw e = ap Locked (same_path p q fv fw (omega arith))
same_lock v w fv fw e = absurd (omega arith)

-- two verbs never share a number
same_verb : (v w : Verb) → verb_code v ≡ verb_code w → v ≡ w
same_verb Reserve Reserve e = refl
same_verb Release Release e = refl
same_verb Lock Lock e = refl
same_verb Unlock Unlock e = refl
same_verb v w e = absurd (omega arith)

-- a letter is its four parts
letter_parts : (b b' : BoxId) (v v' : Verb) (x x' y y' : Arm) → b ≡ b' → v ≡ v' → x ≡ x' → y ≡ y'
    → (let made : Letter = record { to = b; verb = v; x = x; y = y } in made) ≡ record { to = b'; verb = v'; x = x'; y = y' }
letter_parts b b' v v' x x' y y' eb ev ex ey = cc

-- two letters never share their fields
same_letter : (l m : Letter) → FitsLetter l → FitsLetter m → packed_letter l ≡ packed_letter m → l ≡ m
same_letter l m fl fm e =
    let vl = verb_code-lt l.verb in
    let vm = verb_code-lt m.verb in
    letter_parts l.to m.to l.verb m.verb l.x m.x l.y m.y (same_box l.to m.to (omega arith)) (same_verb l.verb m.verb (omega arith))
    (same_arm l.x m.x (omega arith)) (same_arm l.y m.y (omega arith))

pub same_mail : (v w : MailWord) → FitsMail v → FitsMail w → packed_mail v ≡ packed_mail w → v ≡ w
same_mail Empty Empty fv fw e = refl
same_mail (Ask l) (Ask m) fv fw e = ap Ask (same_letter l m fv fw (omega arith))
same_mail (Taken l) (Taken m) fv fw e = ap Taken (same_letter l m fv fw (omega arith))
same_mail (Yes l) (Yes m) fv fw e = ap Yes (same_letter l m fv fw (omega arith))
same_mail (No l t) (No m u) fv fw e =
    let vl = verb_code-lt l.verb in
    let vm = verb_code-lt m.verb in
    let holder : t ≡ u = same_train t u (omega arith) in
    let letter : l ≡ m = same_letter l m fv.0 fw.0 (omega arith) in
    cc
same_mail v w fv fw e = absurd (omega arith)
