-- The steps of a point machine: the function gives exactly those of the sentences, and what they keep to.
use Rattle.std.proofs.Common.{◌≡◌, ◌↔◌, ℕ, ◌<◌, ◌==◌, true, Option, Some, None, IfSome, refl, sym, ap, subst, ◌∙◌}
use Rattle.std.proofs.lemmas.Bool.{eqb-true, eq-eqb}
use Rattle.std.proofs.lemmas.Option.{same_Some}
use Rattle.rl_base.specs.Numbers.{IsU32}
use Rattle.rl_base.specs.declared.ids.BoxId.{BoxId}
use Rattle.rl_base.specs.declared.layout.Layout.{Layout}
use Rattle.rl_base.specs.declared.layout.NodeKind.{NodeKind}
use Rattle.rl_base.specs.declared.layout.NodeKind.TheVariants as nodes
use Rattle.rl_base.specs.declared.layout.WordKind.{WordKind}
use Rattle.rl_base.specs.Layout.{HasWord, HasNode, word_number, node_number}
use Rattle.rl_words.specs.declared.lock.LockWord.{LockWord}
use Rattle.rl_words.specs.declared.lock.LockWord.TheVariants.{Free, Asked, Moving, Moved, Locked}
use Rattle.rl_words.specs.Owner.{Owns}
use Rattle.rl_words.specs.Word.{Word, kind_of, FitsWord, word_owner, PackedStep}
use Rattle.rl_words.specs.Word.Word.{Resv, Lock, Mail, Run, Sense}
use Rattle.rl_words.proofs.PackedSteps.{guarded, mapped, packed_front, packed_back, packed_by}
use Rattle.rl_track.specs.declared.machine.MachineMind.{MachineMind}
use Rattle.rl_track.specs.Kept.{KeepsMachine}
use Rattle.rl_track.specs.Machine.{MachineStep, lock_turn, machine_on, machine_step, machine_target}
use Rattle.rl_track.specs.Machine.MachineStep.{throw, settle}
use Rattle.rl_track.proofs.TrackLemmas.{ReadsWords, PacksSmall, OwnsWords}

box_same : (b c : BoxId) → (b.0 == c.0) ≡ true → b ≡ c
box_same b c e = let id : ℕ → BoxId = λ n. record { 0 = n } in ap id (eqb-true b.0 c.0 e)

lock_front : (b : BoxId) (mind : MachineMind) (v next : LockWord) → lock_turn v ≡ Some next → MachineStep b mind (Lock b v) (Lock b next) mind
lock_front b mind (Free side) next e = absurd (cc)
lock_front b mind (Asked p) next e = subst (λ w. MachineStep b mind (Lock b (Asked p)) (Lock b w) mind) (same_Some _ next e) (throw mind p)
lock_front b mind (Moving p) next e = subst (λ w. MachineStep b mind (Lock b (Moving p)) (Lock b w) mind) (same_Some _ next e) (settle mind p)
lock_front b mind (Moved p) next e = absurd (cc)
lock_front b mind (Locked p) next e = absurd (cc)

front : (b : BoxId) (mind : MachineMind) (word : Word) (r : Word × MachineMind) → machine_on b mind word ≡ Some r → MachineStep b mind word r.0 r.1
front b mind (Resv c v) r e = absurd (cc)
front b mind (Lock c v) r e =
    let on = guarded _ _ _ e in
    let m = mapped _ _ _ on.1 in
    let of : BoxId → Type 0 = λ x. MachineStep b mind (Lock x v) (Lock x m.0) mind in
    let to : Word × MachineMind → Type 0 = λ q. MachineStep b mind (Lock c v) q.0 q.1 in
    subst to m.2 (subst of (sym (box_same c b on.0)) (lock_front b mind v m.0 m.1))
front b mind (Mail t v) r e = absurd (cc)
front b mind (Run t v) r e = absurd (cc)
front b mind (Sense t v) r e = absurd (cc)

pub machine_front : (b : BoxId) (mind : MachineMind) (word next : Word) (after : MachineMind) → machine_on b mind word ≡ Some (next, after)
    → MachineStep b mind word next after
machine_front b mind word next after e = front b mind word (next, after) e

pub machine_back : (b : BoxId) (mind : MachineMind) (word next : Word) (after : MachineMind) → MachineStep b mind word next after
    → machine_on b mind word ≡ Some (next, after)
machine_back b _ _ _ _ (throw mind p) = let own : (b.0 == b.0) ≡ true = eq-eqb b.0 b.0 refl in rw own refl
machine_back b _ _ _ _ (settle mind p) = let own : (b.0 == b.0) ≡ true = eq-eqb b.0 b.0 refl in rw own refl

pub step_front : (b : BoxId) (mind : MachineMind) (kind : WordKind) (payload new : ℕ) (after : MachineMind)
    → machine_step b mind kind payload ≡ Some (new, after) → PackedStep (MachineStep b mind) kind payload new after
unfolding machine_step
step_front b mind kind payload new after e =
    packed_by _ _ kind payload new after (machine_front b mind) (packed_front (machine_on b mind) kind payload new after e)

pub step_back : (b : BoxId) (mind : MachineMind) (kind : WordKind) (payload new : ℕ) (after : MachineMind)
    → PackedStep (MachineStep b mind) kind payload new after → machine_step b mind kind payload ≡ Some (new, after)
unfolding machine_step
step_back b mind kind payload new after p =
    packed_back (machine_on b mind) kind payload new after (packed_by _ _ kind payload new after (machine_back b mind) p)

-- what is so of a step of a machine, word by word
record Keeps (lay : Layout) (b : BoxId) (word next : Word) : Type 0 where
  target : kind_of word ≡ machine_target b
  owner : word_owner word ≡ nodes.Machine b
  has_word : HasWord lay (kind_of word)
  kind : kind_of next ≡ kind_of word
  fits : FitsWord next

kept : (lay : Layout) (b : BoxId) (mind : MachineMind) (word next : Word) (after : MachineMind) → b.0 < lay.boxes → MachineStep b mind word next after
    → FitsWord word → Keeps lay b word next
kept lay b _ _ _ _ there (throw mind p) fits = record { target = refl; owner = refl; has_word = there; kind = refl; fits = fits }
kept lay b _ _ _ _ there (settle mind p) fits = record { target = refl; owner = refl; has_word = there; kind = refl; fits = fits }

pub keeps : ReadsWords → PacksSmall → OwnsWords → (lay : Layout) (b : BoxId) (mind : MachineMind) (kind : WordKind) (payload new : ℕ) (after : MachineMind)
    → b.0 < lay.boxes → machine_step b mind kind payload ≡ Some (new, after) → KeepsMachine lay b mind kind payload new after
keeps reads small owns lay b mind kind payload new after there e =
    let p = step_front b mind kind payload new after e in
    let r = reads kind payload p.seen p.reads in
    let k = kept lay b mind p.seen p.left after there p.step r.fits in
    let node : HasNode lay (word_owner p.seen) = subst (HasNode lay) (sym k.owner) there in
    let by_kind : WordKind → Type 0 = λ x. Owns lay (word_number lay x) payload (node_number lay (nodes.Machine b)) in
    let by_node : NodeKind → Type 0 = λ n. Owns lay (word_number lay (kind_of p.seen)) payload (node_number lay n) in
    let by_payload : ℕ → Type 0 = λ n. Owns lay (word_number lay (kind_of p.seen)) n (node_number lay (word_owner p.seen)) in
    record {
      target = sym r.kind_is ∙ k.target;
      owned = subst by_kind r.kind_is (subst by_node k.owner (subst by_payload r.packed (owns lay p.seen k.has_word node r.fits)));
      seen = p.seen;
      left = p.left;
      saw = p.reads;
      step = p.step;
      reads = record { kind_is = k.kind ∙ r.kind_is; fits = k.fits; packed = p.packs };
      small = subst (λ n. IsU32 n) p.packs (small p.left k.fits);
    }

-- what the function gives at the target, the sentences relate, and the machine owns the value
pub acts_by_lines : (b : BoxId) (mind : MachineMind) (payload : ℕ) (result : Option (ℕ × MachineMind))
    → result ≡ machine_step b mind (machine_target b) payload
    → (new : ℕ) (after : MachineMind) → (result ≡ Some (new, after)) ↔ PackedStep (MachineStep b mind) (machine_target b) payload new after
acts_by_lines b mind payload result is new after = (
  λ e. step_front b mind (machine_target b) payload new after (sym is ∙ e),
  λ p. is ∙ step_back b mind (machine_target b) payload new after p,
)

pub acts_owned : ((lay : Layout) (b : BoxId) (mind : MachineMind) (kind : WordKind) (payload new : ℕ) (after : MachineMind) → b.0 < lay.boxes
    → machine_step b mind kind payload ≡ Some (new, after) → KeepsMachine lay b mind kind payload new after)
    → (lay : Layout) (b : BoxId) (mind : MachineMind) (payload : ℕ) (result : Option (ℕ × MachineMind)) → b.0 < lay.boxes
    → result ≡ machine_step b mind (machine_target b) payload
    → IfSome result (λ r. Owns lay (word_number lay (machine_target b)) payload (node_number lay (nodes.Machine b)))
acts_owned keeps_to lay b mind payload None there is = tt
acts_owned keeps_to lay b mind payload (Some r) there is = (keeps_to lay b mind (machine_target b) payload r.0 r.1 there (sym is)).owned
