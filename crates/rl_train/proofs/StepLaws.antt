-- The laws of the steps of a train.
use Rattle.std.proofs.Common.{◌≡◌, ℕ, ◌<◌, true, false, Some, refl, sym, ap, subst, ◌∙◌, arith}
use Rattle.std.proofs.lemmas.Bool.{and_right}
use Rattle.std.proofs.lemmas.Option.{same_Some, some_pair_parts}
use Rattle.rl_base.specs.Numbers.{IsU32}
use Rattle.rl_base.specs.declared.job.Job.{Job}
use Rattle.rl_base.specs.declared.job.Job.TheVariants.{Near, Far, Near2, Far2, Lock, Pass, Unlock, FreeNear, FreeFar, DropFar2, DropNear2, DropFar, DropNear}
use Rattle.rl_base.specs.declared.layout.Layout.{Layout}
use Rattle.rl_base.specs.declared.layout.NodeKind.{NodeKind}
use Rattle.rl_base.specs.declared.layout.NodeKind.TheVariants as nodes
use Rattle.rl_base.specs.declared.layout.WordKind.{WordKind}
use Rattle.rl_base.specs.declared.layout.WordKind.TheVariants as kinds
use Rattle.rl_base.specs.Layout.{HasWord, HasNode, word_number, node_number}
use Rattle.rl_words.specs.declared.mail.Letter.{Letter}
use Rattle.rl_words.specs.Mail.{FitsLetter}
use Rattle.rl_words.specs.Owner.{Owns}
use Rattle.rl_words.specs.Word.{Word, kind_of, FitsWord, packed_word, read_word, word_owner, IsReading, PackedStep}
use Rattle.rl_words.proofs.PackedSteps.{mapped, packed_front, packed_back, packed_by}
use Rattle.rl_tables.specs.declared.table.StepRow.{StepRow}
use Rattle.rl_tables.specs.declared.table.TrainTable.{TrainTable}
use Rattle.rl_train.specs.declared.mind.TrainMind.{TrainMind}
use Rattle.rl_train.specs.Jobs.{letter, is_near, is_pass}
use Rattle.rl_train.specs.Kept.{IsTrainOn, KeepsTrain}
use Rattle.rl_train.specs.Mind.{at_rest, IsTrainMind, CanBeNamed, IsUsable}
use Rattle.rl_train.specs.Steps.{TrainStep, train_on, train_step, train_target}
use Rattle.rl_train.specs.Steps.TrainStep.{post, hear_yes, hear_no, go, quiet}
use Rattle.rl_train.proofs.KeptLemmas.{heard_kept, denied_kept, posted_kept, passing_on_route, gone_kept, quiet_kept}
use Rattle.rl_train.proofs.Sentences.{ComparesLetters, ComparesItself, train_front, train_back}

pub step_front : ComparesLetters → (table : TrainTable) (mind : TrainMind) (kind : WordKind) (payload new : ℕ) (after : TrainMind)
    → train_step table mind kind payload ≡ Some (new, after) → PackedStep (TrainStep table mind) kind payload new after
unfolding train_step
step_front same table mind kind payload new after e =
    packed_by _ _ kind payload new after (train_front same table mind) (packed_front (train_on table mind) kind payload new after e)

pub step_back : ComparesItself → (table : TrainTable) (mind : TrainMind) (kind : WordKind) (payload new : ℕ) (after : TrainMind)
    → PackedStep (TrainStep table mind) kind payload new after → train_step table mind kind payload ≡ Some (new, after)
unfolding train_step
step_back same table mind kind payload new after p =
    packed_back (train_on table mind) kind payload new after (packed_by _ _ kind payload new after (train_back same table mind) p)

pub one_step : ComparesItself → (table : TrainTable) (mind : TrainMind) (word next other : Word) (after last : TrainMind) → TrainStep table mind word next after
    → TrainStep table mind word other last → (next ≡ other) × (after ≡ last)
one_step same table mind word next other after last p q =
    some_pair_parts next other after last (sym (train_back same table mind word next after p) ∙ train_back same table mind word other last q)

owner : (table : TrainTable) (mind : TrainMind) (word next : Word) (after : TrainMind) → TrainStep table mind word next after
    → word_owner word ≡ nodes.Train table.number
owner table mind _ _ _ (post row l here is waits rests) = refl
owner table mind _ _ _ (hear_yes row l here is waits) = refl
owner table mind _ _ _ (hear_no row l u next here is then_job waits) = refl
owner table mind _ _ _ (go is waits) = refl
owner table mind _ _ _ (quiet is waits) = refl

same_kind : (table : TrainTable) (mind : TrainMind) (word next : Word) (after : TrainMind) → TrainStep table mind word next after → kind_of next ≡ kind_of word
same_kind table mind _ _ _ (post row l here is waits rests) = refl
same_kind table mind _ _ _ (hear_yes row l here is waits) = refl
same_kind table mind _ _ _ (hear_no row l u next here is then_job waits) = refl
same_kind table mind _ _ _ (go is waits) = refl
same_kind table mind _ _ _ (quiet is waits) = refl

-- the word of a train's step is one of its own
has_word : (lay : Layout) (table : TrainTable) (mind : TrainMind) (word next : Word) (after : TrainMind) → table.number.0 < lay.trains
    → TrainStep table mind word next after → HasWord lay (kind_of word)
has_word lay table mind _ _ _ there (post row l here is waits rests) = there
has_word lay table mind _ _ _ there (hear_yes row l here is waits) = there
has_word lay table mind _ _ _ there (hear_no row l u next here is then_job waits) = there
has_word lay table mind _ _ _ there (go is waits) = there
has_word lay table mind _ _ _ there (quiet is waits) = there

-- who has a letter doesn't pass
not_pass : (row : StepRow) (job : Job) (l : Letter) → letter row job ≡ Some l → is_pass job ≡ false
unfolding letter is_pass
not_pass row Near l e = refl
not_pass row Far l e = refl
not_pass row Near2 l e = refl
not_pass row Far2 l e = refl
not_pass row Lock l e = refl
not_pass row Pass l e = absurd (cc)
not_pass row Unlock l e = refl
not_pass row FreeNear l e = refl
not_pass row FreeFar l e = refl
not_pass row DropFar2 l e = refl
not_pass row DropNear2 l e = refl
not_pass row DropFar l e = refl
not_pass row DropNear l e = refl

-- who waits isn't at rest, nor is who passes
waiting_on : (table : TrainTable) (mind : TrainMind) → mind.waits ≡ true → at_rest table mind ≡ false
waiting_on table mind waits = and_right (is_near mind.job) _ (rw waits refl)

passing_on : (table : TrainTable) (mind : TrainMind) → mind.job ≡ Pass → at_rest table mind ≡ false
unfolding is_near
passing_on table mind is = rw is refl

at_mail : (table : TrainTable) (mind : TrainMind) → at_rest table mind ≡ false → is_pass mind.job ≡ false
    → train_target table mind ≡ Some (kinds.Mail table.number)
at_mail table mind rests pass = rw (rests, pass) refl

looks : (table : TrainTable) (mind : TrainMind) (word next : Word) (after : TrainMind) → TrainStep table mind word next after
    → train_target table mind ≡ Some (kind_of word)
unfolding is_pass
looks table mind _ _ _ (post row l here is waits rests) = at_mail table mind rests (not_pass row mind.job l is)
looks table mind _ _ _ (hear_yes row l here is waits) = at_mail table mind (waiting_on table mind waits) (not_pass row mind.job l is)
looks table mind _ _ _ (hear_no row l u next here is then_job waits) = at_mail table mind (waiting_on table mind waits) (not_pass row mind.job l is)
looks table mind _ _ _ (go is waits) =
    let rests = passing_on table mind is in
    let pass : is_pass mind.job ≡ true = ap is_pass is in
    rw (rests, pass, waits) refl
looks table mind _ _ _ (quiet is waits) =
    let rests = passing_on table mind is in
    let pass : is_pass mind.job ≡ true = ap is_pass is in
    rw (rests, pass, waits) refl

-- the letter of a job can be packed
letter_fits : (row : StepRow) (job : Job) (l : Letter) → CanBeNamed row → letter row job ≡ Some l → FitsLetter l
unfolding letter
letter_fits row Near l n e = subst FitsLetter (same_Some _ l e) (record { to = n.b; x = n.y; y = omega arith; arms = refl })
letter_fits row Far l n e = subst FitsLetter (same_Some _ l e) (record { to = n.c; x = n.c_arm; y = omega arith; arms = refl })
letter_fits row Near2 l n e =
    let m = mapped _ _ _ e in
    let named = n.next m.0 m.1 in
    subst FitsLetter m.2 (record { to = named.b2; x = named.b2_arm; y = omega arith; arms = refl })
letter_fits row Far2 l n e =
    let m = mapped _ _ _ e in
    let named = n.next m.0 m.1 in
    subst FitsLetter m.2 (record { to = named.c2; x = named.c2_arm; y = omega arith; arms = refl })
letter_fits row Lock l n e = subst FitsLetter (same_Some _ l e) (record { to = n.b; x = n.x; y = n.y; arms = n.apart })
letter_fits row Pass l n e = absurd (cc)
letter_fits row Unlock l n e = subst FitsLetter (same_Some _ l e) (record { to = n.b; x = n.x; y = n.y; arms = n.apart })
letter_fits row FreeNear l n e = subst FitsLetter (same_Some _ l e) (record { to = n.b; x = n.x; y = omega arith; arms = refl })
letter_fits row FreeFar l n e = subst FitsLetter (same_Some _ l e) (record { to = n.a; x = n.a_arm; y = omega arith; arms = refl })
letter_fits row DropFar2 l n e =
    let m = mapped _ _ _ e in
    let named = n.next m.0 m.1 in
    subst FitsLetter m.2 (record { to = named.c2; x = named.c2_arm; y = omega arith; arms = refl })
letter_fits row DropNear2 l n e =
    let m = mapped _ _ _ e in
    let named = n.next m.0 m.1 in
    subst FitsLetter m.2 (record { to = named.b2; x = named.b2_arm; y = omega arith; arms = refl })
letter_fits row DropFar l n e = subst FitsLetter (same_Some _ l e) (record { to = n.c; x = n.c_arm; y = omega arith; arms = refl })
letter_fits row DropNear l n e = subst FitsLetter (same_Some _ l e) (record { to = n.b; x = n.y; y = omega arith; arms = refl })

kept : (table : TrainTable) (mind : TrainMind) (word next : Word) (after : TrainMind) → IsUsable table → IsTrainMind table mind
    → TrainStep table mind word next after → FitsWord next × IsTrainMind table after
kept table mind _ _ _ u h (post row l here is waits rests) = (letter_fits row mind.job l (u.rows mind.step row here) is, posted_kept table mind h waits rests)
kept table mind _ _ _ u h (hear_yes row l here is waits) = (tt, heard_kept table row mind u h waits here)
kept table mind _ _ _ u h (hear_no row l holder next here is then_job waits) = (tt, denied_kept table row mind next h waits here then_job)
kept table mind _ _ _ u h (go is waits) =
    let on = passing_on_route table mind h is in
    let short = u.short in
    (omega arith, gone_kept table mind h is)
kept table mind _ _ _ u h (quiet is waits) =
    let on = passing_on_route table mind h is in
    let short = u.short in
    (omega arith, quiet_kept table mind h is)

-- what is read is of the kind, fits and packs to the payload; what fits is small and owned: as laws of the words say
abbrev pub ReadsWords : Type 0
ReadsWords = (kind : WordKind) (n : ℕ) (word : Word) → read_word kind n ≡ Some word → IsReading kind n word

abbrev pub PacksSmall : Type 0
PacksSmall = (word : Word) → FitsWord word → IsU32 (packed_word word)

abbrev pub OwnsWords : Type 0
OwnsWords = (lay : Layout) (word : Word) → HasWord lay (kind_of word) → HasNode lay (word_owner word) → FitsWord word
    → Owns lay (word_number lay (kind_of word)) (packed_word word) (node_number lay (word_owner word))

pub keeps : ComparesLetters → ReadsWords → PacksSmall → OwnsWords
    → (lay : Layout) (table : TrainTable) (mind : TrainMind) (kind : WordKind) (payload new : ℕ) (after : TrainMind) → IsTrainOn lay table mind
    → train_step table mind kind payload ≡ Some (new, after) → KeepsTrain lay table mind kind payload new after
keeps same reads small owns lay table mind kind payload new after on e =
    let p = step_front same table mind kind payload new after e in
    let r = reads kind payload p.seen p.reads in
    let word = has_word lay table mind p.seen p.left after on.there p.step in
    let stays = kept table mind p.seen p.left after on.table_is on.mind_is p.step in
    let own = owner table mind p.seen p.left after p.step in
    let node : HasNode lay (word_owner p.seen) = subst (HasNode lay) (sym own) on.there in
    let by_kind : WordKind → Type 0 = λ k. Owns lay (word_number lay k) payload (node_number lay (nodes.Train table.number)) in
    let by_node : NodeKind → Type 0 = λ n. Owns lay (word_number lay (kind_of p.seen)) payload (node_number lay n) in
    let by_payload : ℕ → Type 0 = λ n. Owns lay (word_number lay (kind_of p.seen)) n (node_number lay (word_owner p.seen)) in
    record {
      target = looks table mind p.seen p.left after p.step ∙ ap Some r.kind_is;
      owned = subst by_kind r.kind_is (subst by_node own (subst by_payload r.packed (owns lay p.seen word node r.fits)));
      seen = p.seen;
      left = p.left;
      saw = p.reads;
      step = p.step;
      reads = record { kind_is = same_kind table mind p.seen p.left after p.step ∙ r.kind_is; fits = stays.0; packed = p.packs };
      small = subst (λ n. IsU32 n) p.packs (small p.left stays.0);
      after_is = stays.1;
    }
