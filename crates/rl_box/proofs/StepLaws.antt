-- The laws of the steps of a box.
use Rattle.std.proofs.Common.{◌≡◌, ℕ, ◌<◌, ◌≤◌, nat_lt, true, false, Some, if◌then◌else◌, refl, sym, ap, subst, ◌∙◌, arith}
use Rattle.std.proofs.lemmas.Bool.{lt-ltb, le-ltb}
use Rattle.rl_base.specs.declared.limits.TheConstants.{MAX_BOXES}
use Rattle.rl_base.specs.Numbers.{IsU32}
use Rattle.rl_base.specs.declared.job.Verb.{Verb}
use Rattle.rl_base.specs.declared.job.Verb.TheVariants as verbs
use Rattle.rl_base.specs.declared.layout.Layout.{Layout}
use Rattle.rl_base.specs.declared.layout.NodeKind.{NodeKind}
use Rattle.rl_base.specs.declared.layout.NodeKind.TheVariants as nodes
use Rattle.rl_base.specs.declared.layout.WordKind.{WordKind}
use Rattle.rl_base.specs.declared.layout.WordKind.TheVariants as kinds
use Rattle.rl_base.specs.Layout.{HasWord, HasNode, word_number, node_number}
use Rattle.rl_words.specs.Owner.{Owns}
use Rattle.rl_words.specs.Word.{Word, kind_of, FitsWord, packed_word, read_word, word_owner, IsReading, PackedStep}
use Rattle.rl_words.proofs.PackedSteps.{packed_front, packed_back, packed_by}
use Rattle.rl_tables.specs.declared.table.BoxTable.{BoxTable}
use Rattle.rl_box.specs.declared.mind.BoxMind.{BoxMind}
use Rattle.rl_box.specs.Kept.{IsAtWord, KeepsBox}
use Rattle.rl_box.specs.Mind.{IsBoxMind}
use Rattle.rl_box.specs.Steps.{BoxStep, box_on, box_step, box_target, verb_target}
use Rattle.rl_box.specs.Steps.BoxStep.{take, reserve, refuse, release, lock, ask, moved, unlock, say_yes, say_refused, say_barred, busy}
use Rattle.rl_box.proofs.Kept.{KeepsArms, box_kept}
use Rattle.rl_box.proofs.Sentences.{ComparesLetters, ComparesItself, box_front, box_back}

pub step_front : ComparesLetters → (b : BoxTable) (mind : BoxMind) (kind : WordKind) (payload new : ℕ) (after : BoxMind)
    → box_step b mind kind payload ≡ Some (new, after) → PackedStep (BoxStep b mind) kind payload new after
unfolding box_step
step_front same b mind kind payload new after e =
    packed_by _ _ kind payload new after (box_front same b mind) (packed_front (box_on b mind) kind payload new after e)

pub step_back : ComparesItself → (b : BoxTable) (mind : BoxMind) (kind : WordKind) (payload new : ℕ) (after : BoxMind)
    → PackedStep (BoxStep b mind) kind payload new after → box_step b mind kind payload ≡ Some (new, after)
unfolding box_step
step_back same b mind kind payload new after p =
    packed_back (box_on b mind) kind payload new after (packed_by _ _ kind payload new after (box_back same b mind) p)

-- the box owns the word that it steps at
owner : (lay : Layout) (b : BoxTable) (mind : BoxMind) (word next : Word) (after : BoxMind) → BoxStep b mind word next after → IsBoxMind lay b mind
    → word_owner word ≡ nodes.Box b.number
owner lay b _ _ _ _ (take t l waiting to has) h = ap nodes.Box to
owner lay b _ _ _ _ (reserve t l waiting w is free) h = refl
owner lay b _ _ _ _ (refuse t u l waiting w is held other) h = refl
owner lay b _ _ _ _ (release t l waiting w is held) h = refl
owner lay b _ _ _ _ (lock t l side is joins) h = refl
owner lay b _ _ _ _ (ask t l side is here there) h = refl
owner lay b _ _ _ _ (moved p) h = refl
owner lay b _ _ _ _ (unlock t l side is joins) h = refl
owner lay b _ _ _ _ (say_yes t l waiting) h = ap nodes.Box h.work.1.to
owner lay b _ _ _ _ (say_refused t u l waiting is) h = ap nodes.Box h.work.1.to
owner lay b _ _ _ _ (say_barred t u l waiting is) h = ap nodes.Box h.work.1.to
owner lay b _ _ _ _ (busy t l p is other) h = refl

-- it steps at a word at which it looks
abbrev LooksAt : Layout → BoxTable → BoxMind → WordKind → Type 0
LooksAt lay b mind kind = (scan : ℕ) × (scan ≤ lay.trains) × (kind ≡ box_target lay b mind scan)

at_verb : (b : BoxTable) (verb is : Verb) → verb ≡ is → verb_target b is ≡ verb_target b verb
at_verb b verb is e = sym (ap (verb_target b) e)

last_place : (lay : Layout) (b : BoxTable)
    → kinds.Lock b.number ≡ (if nat_lt lay.trains lay.trains then kinds.Mail (record { 0 = lay.trains }) else kinds.Lock b.number)
last_place lay b = let no : nat_lt lay.trains lay.trains ≡ false = le-ltb lay.trains lay.trains (omega arith) in rw no refl

looks : (lay : Layout) (b : BoxTable) (mind : BoxMind) (word next : Word) (after : BoxMind) → BoxStep b mind word next after → HasWord lay (kind_of word)
    → LooksAt lay b mind (kind_of word)
looks lay b _ _ _ _ (take t l waiting to has) there =
    let in_range : nat_lt t.0 lay.trains ≡ true = lt-ltb t.0 lay.trains there in
    (t.0, omega arith, rw in_range refl)
looks lay b _ _ _ _ (reserve t l waiting w is free) there = (0, omega arith, at_verb b l.verb verbs.Reserve is)
looks lay b _ _ _ _ (refuse t u l waiting w is held other) there = (0, omega arith, at_verb b l.verb verbs.Reserve is)
looks lay b _ _ _ _ (release t l waiting w is held) there = (0, omega arith, at_verb b l.verb verbs.Release is)
looks lay b _ _ _ _ (lock t l side is joins) there = (0, omega arith, at_verb b l.verb verbs.Lock is)
looks lay b _ _ _ _ (ask t l side is here other) there = (0, omega arith, at_verb b l.verb verbs.Lock is)
looks lay b _ _ _ _ (moved p) there = (lay.trains, omega arith, last_place lay b)
looks lay b _ _ _ _ (unlock t l side is joins) there = (0, omega arith, at_verb b l.verb verbs.Unlock is)
looks lay b _ _ _ _ (say_yes t l waiting) there = (0, omega arith, refl)
looks lay b _ _ _ _ (say_refused t u l waiting is) there = (0, omega arith, refl)
looks lay b _ _ _ _ (say_barred t u l waiting is) there = (0, omega arith, refl)
looks lay b _ _ _ _ (busy t l p is other) there = (0, omega arith, at_verb b l.verb verbs.Lock is)

-- the word that is left is of the kind that was seen
same_kind : (b : BoxTable) (mind : BoxMind) (word next : Word) (after : BoxMind) → BoxStep b mind word next after → kind_of next ≡ kind_of word
same_kind b _ _ _ _ (take t l waiting to has) = refl
same_kind b _ _ _ _ (reserve t l waiting w is free) = refl
same_kind b _ _ _ _ (refuse t u l waiting w is held other) = refl
same_kind b _ _ _ _ (release t l waiting w is held) = refl
same_kind b _ _ _ _ (lock t l side is joins) = refl
same_kind b _ _ _ _ (ask t l side is here there) = refl
same_kind b _ _ _ _ (moved p) = refl
same_kind b _ _ _ _ (unlock t l side is joins) = refl
same_kind b _ _ _ _ (say_yes t l waiting) = refl
same_kind b _ _ _ _ (say_refused t u l waiting is) = refl
same_kind b _ _ _ _ (say_barred t u l waiting is) = refl
same_kind b _ _ _ _ (busy t l p is other) = refl

-- what is read is of the kind, fits and packs to the payload; what fits is small and owned: as laws of the words say
abbrev pub ReadsWords : Type 0
ReadsWords = (kind : WordKind) (n : ℕ) (word : Word) → read_word kind n ≡ Some word → IsReading kind n word

abbrev pub PacksSmall : Type 0
PacksSmall = (word : Word) → FitsWord word → IsU32 (packed_word word)

abbrev pub OwnsWords : Type 0
OwnsWords = (lay : Layout) (word : Word) → HasWord lay (kind_of word) → HasNode lay (word_owner word) → FitsWord word
    → Owns lay (word_number lay (kind_of word)) (packed_word word) (node_number lay (word_owner word))

pub keeps : ComparesLetters → KeepsArms → ReadsWords → PacksSmall → OwnsWords
    → (lay : Layout) (b : BoxTable) (mind : BoxMind) (kind : WordKind) (payload new : ℕ) (after : BoxMind) → IsAtWord lay b mind kind
    → box_step b mind kind payload ≡ Some (new, after) → KeepsBox lay b mind kind payload new after
keeps same arms reads small owns lay b mind kind payload new after at e =
    let p = step_front same b mind kind payload new after e in
    let r = reads kind payload p.seen p.reads in
    let there : HasWord lay (kind_of p.seen) = subst (HasWord lay) (sym r.kind_is) at.word in
    let number : b.number.0 < MAX_BOXES = let h = at.boxes in let k = at.there in omega arith in
    let kept = box_kept arms lay b mind p.seen p.left after at.trains number p.step at.mind_is there r.fits in
    let own = owner lay b mind p.seen p.left after p.step at.mind_is in
    let node : HasNode lay (word_owner p.seen) = subst (HasNode lay) (sym own) at.there in
    let by_kind : WordKind → Type 0 = λ k. Owns lay (word_number lay k) payload (node_number lay (nodes.Box b.number)) in
    let by_node : NodeKind → Type 0 = λ n. Owns lay (word_number lay (kind_of p.seen)) payload (node_number lay n) in
    let by_payload : ℕ → Type 0 = λ n. Owns lay (word_number lay (kind_of p.seen)) n (node_number lay (word_owner p.seen)) in
    record {
      target = subst (LooksAt lay b mind) r.kind_is (looks lay b mind p.seen p.left after p.step there);
      owned = subst by_kind r.kind_is (subst by_node own (subst by_payload r.packed (owns lay p.seen there node r.fits)));
      seen = p.seen;
      left = p.left;
      saw = p.reads;
      step = p.step;
      reads = record { kind_is = same_kind b mind p.seen p.left after p.step ∙ r.kind_is; fits = kept.0; packed = p.packs };
      small = subst (λ n. IsU32 n) p.packs (small p.left kept.0);
      after_is = kept.1;
    }
