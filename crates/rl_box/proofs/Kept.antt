-- A step of a box leaves its mind well formed, and a word that can be packed.
use Rattle.std.proofs.Common.{◌≡◌, ◌≢◌, ℕ, ◌<◌, ◌≤◌, ◌==◌, Bool, true, false, Option, Some, None, cond, refl, sym, subst, arith}
use Rattle.std.proofs.lemmas.Bool.{and_parts, ltb-true}
use Rattle.rl_base.specs.declared.limits.TheConstants.{MAX_BOXES, MAX_TRAINS}
use Rattle.rl_base.specs.declared.ids.TrainId.{TrainId}
use Rattle.rl_base.specs.declared.job.Verb.{Verb}
use Rattle.rl_base.specs.declared.job.Verb.TheVariants as verbs
use Rattle.rl_base.specs.declared.kind.Kind.{Kind}
use Rattle.rl_base.specs.declared.kind.Kind.TheVariants.{Buffer, Joint, Point, Crossing}
use Rattle.rl_base.specs.declared.layout.Layout.{Layout}
use Rattle.rl_base.specs.Kind.{arms_of}
use Rattle.rl_base.specs.Layout.{HasWord}
use Rattle.rl_words.specs.declared.mail.Letter.{Letter}
use Rattle.rl_words.specs.declared.resv.ResvWord.{ResvWord}
use Rattle.rl_words.specs.Lock.{FitsPath}
use Rattle.rl_words.specs.Mail.{FitsArms, IsRefusable, about_passage}
use Rattle.rl_words.specs.Resv.{FitsArm, FitsResv, arm_in, with_arm}
use Rattle.rl_words.specs.Word.{Word, kind_of, FitsWord}
use Rattle.rl_tables.specs.declared.table.BoxTable.{BoxTable}
use Rattle.rl_box.specs.declared.mind.BoxMind.{BoxMind}
use Rattle.rl_box.specs.Mind.{IsLetterTo, IsBoxMind}
use Rattle.rl_box.specs.Steps.{path_of, BoxStep}
use Rattle.rl_box.specs.Steps.BoxStep.{take, reserve, refuse, release, lock, ask, moved, unlock, say_yes, say_refused, say_barred, busy}

-- a word with an arm changed still fits, as a law of the words says
abbrev pub KeepsArms : Type 0
KeepsArms = (w : ResvWord) (x : ℕ) (arm : Option TrainId) → FitsResv w → FitsArm arm → x < 4 → FitsResv (with_arm w x arm)

either : {A : Type 0} (P : A → Type 0) (test : Bool) (x y : A) → P x → P y → P (cond test x y)
either P true x y px py = px
either P false x y px py = py

arm_fits : (w : ResvWord) (x : ℕ) → FitsResv w → FitsArm (arm_in w x)
arm_fits w x f = either FitsArm (x == 0) _ _ f.arm0 (either FitsArm (x == 1) _ _ f.arm1 (either FitsArm (x == 2) _ _ f.arm2 f.arm3))

few_arms : (kind : Kind) → arms_of kind ≤ 4
few_arms Buffer = omega arith
few_arms Joint = omega arith
few_arms Point = omega arith
few_arms Crossing = omega arith

passage : (verb : Verb) (x y : ℕ) → verb ≡ verbs.Lock → FitsArms verb x y → x ≢ y
passage verb x y is f = let P : Verb → Type 0 = λ v. FitsArms v x y in subst P is f

path_fits : (lay : Layout) (b : BoxTable) (t : TrainId) (l : Letter) → lay.trains ≤ MAX_TRAINS → t.0 < lay.trains → IsLetterTo b l → l.verb ≡ verbs.Lock
    → FitsPath (path_of t l)
path_fits lay b t l few train letter is =
    record { train = omega arith; x = letter.fits.x; y = letter.fits.y; apart = passage l.verb l.x.0 l.y.0 is letter.fits.arms }

refusable : (verb may : Verb) → verb ≡ may → IsRefusable may → IsRefusable verb
refusable verb may is r = subst IsRefusable (sym is) r

pub box_kept : KeepsArms → (lay : Layout) (b : BoxTable) (mind : BoxMind) (word next : Word) (after : BoxMind) → lay.trains ≤ MAX_TRAINS
    → b.number.0 < MAX_BOXES
    → BoxStep b mind word next after → IsBoxMind lay b mind → HasWord lay (kind_of word) → FitsWord word → FitsWord next × IsBoxMind lay b after
box_kept arms lay b _ _ _ _ few small (take t l waiting to has) h there fits =
    let tests = and_parts _ _ has in
    (fits, record { work = (there, record { to = to; fits = fits; x = ltb-true _ _ tests.0; y = ltb-true _ _ tests.1 }); waiting = h.waiting })
box_kept arms lay b _ _ _ _ few small (reserve t l waiting w is free) h there fits =
    let train = h.work.0 in
    let letter = h.work.1 in
    let one : t.0 < MAX_TRAINS = omega arith in
    (arms w l.x.0 (Some t) fits one letter.fits.x, record { work = (train, letter, tt); waiting = h.waiting })
box_kept arms lay b _ _ _ _ few small (refuse t u l waiting w is held other) h there fits =
    let holder : FitsArm (Some u) = subst FitsArm held (arm_fits w l.x.0 fits) in
    (fits, record { work = (h.work.0, h.work.1, holder); waiting = h.waiting })
box_kept arms lay b _ _ _ _ few small (release t l waiting w is held) h there fits =
    (arms w l.x.0 None fits tt h.work.1.fits.x, record { work = (h.work.0, h.work.1, tt); waiting = h.waiting })
box_kept arms lay b _ _ _ _ few small (lock t l side is joins) h there fits =
    (path_fits lay b t l few h.work.0 h.work.1 is, record { work = (h.work.0, h.work.1, tt); waiting = tt })
box_kept arms lay b _ _ _ _ few small (ask t l side is here other) h there fits =
    let letter = h.work.1 in
    let apart = passage l.verb l.x.0 l.y.0 is letter.fits.arms in
    (path_fits lay b t l few h.work.0 letter is, record { work = tt; waiting = record { train = h.work.0; x = letter.x; y = letter.y; apart = apart } })
box_kept arms lay b _ _ _ _ few small (moved p) h there fits =
    let path = h.waiting in
    let most = few_arms b.kind in
    let letter : IsLetterTo b (about_passage b.number verbs.Lock p.x p.y) =
    record { to = refl; fits = record { to = small; x = omega arith; y = omega arith; arms = path.apart }; x = path.x; y = path.y } in
    (fits, record { work = (path.train, letter, tt); waiting = tt })
box_kept arms lay b _ _ _ _ few small (unlock t l side is joins) h there fits =
    (tt, record { work = (h.work.0, h.work.1, tt); waiting = tt })
box_kept arms lay b _ _ _ _ few small (say_yes t l waiting) h there fits =
    (fits, record { work = tt; waiting = h.waiting })
box_kept arms lay b _ _ _ _ few small (say_refused t u l waiting is) h there fits =
    ((fits, refusable l.verb verbs.Reserve is tt, h.work.2), record { work = tt; waiting = h.waiting })
box_kept arms lay b _ _ _ _ few small (say_barred t u l waiting is) h there fits =
    ((fits, refusable l.verb verbs.Lock is tt, h.work.2), record { work = tt; waiting = h.waiting })
box_kept arms lay b _ _ _ _ few small (busy t l p is other) h there fits =
    (fits, record { work = (h.work.0, h.work.1, fits.train); waiting = tt })
