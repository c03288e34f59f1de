-- The steps of a track: the function gives exactly those of the sentences, and what they keep to.
use Rattle.std.proofs.Common.{◌≡◌, ◌↔◌, ℕ, ◌<◌, ◌==◌, true, Option, Some, None, IfSome, refl, sym, ap, subst, ◌∙◌, arith}
use Rattle.std.proofs.lemmas.Bool.{eqb-true, eq-eqb}
use Rattle.std.proofs.lemmas.Option.{same_Some}
use Rattle.rl_base.specs.Numbers.{IsU32}
use Rattle.rl_base.specs.declared.ids.TrainId.{TrainId}
use Rattle.rl_base.specs.declared.layout.Layout.{Layout}
use Rattle.rl_base.specs.declared.layout.NodeKind.{NodeKind}
use Rattle.rl_base.specs.declared.layout.NodeKind.TheVariants as nodes
use Rattle.rl_base.specs.declared.layout.WordKind.{WordKind}
use Rattle.rl_base.specs.Layout.{HasWord, HasNode, word_number, node_number}
use Rattle.rl_words.specs.declared.run.RunWord.{RunWord}
use Rattle.rl_words.specs.declared.run.RunWord.TheVariants.{Clear, Go, Across}
use Rattle.rl_words.specs.declared.sense.SenseWord.{SenseWord}
use Rattle.rl_words.specs.declared.sense.SenseWord.TheVariants.{Quiet, Head, Tail}
use Rattle.rl_words.specs.Owner.{Owns}
use Rattle.rl_words.specs.Word.{Word, kind_of, FitsWord, packed_word, read_word, word_owner, IsReading, PackedStep}
use Rattle.rl_words.specs.Word.Word.{Resv, Lock, Mail, Run, Sense}
use Rattle.rl_words.proofs.PackedSteps.{guarded, mapped, packed_front, packed_back, packed_by}
use Rattle.rl_track.specs.declared.track.TrackMind.{TrackMind}
use Rattle.rl_track.specs.declared.track.TrackPhase.{TrackPhase}
use Rattle.rl_track.specs.declared.track.TrackPhase.TheVariants.{Watch, HeadDue, LeaveDue, TailDue}
use Rattle.rl_track.specs.Kept.{KeepsTrack}
use Rattle.rl_track.specs.Track.{track_at, IsTrackMind, TrackStep, run_turn, sense_turn, track_on, track_step, track_target}
use Rattle.rl_track.specs.Track.TrackStep.{enter, head, leave, tail}

train_same : (t u : TrainId) → (t.0 == u.0) ≡ true → t ≡ u
train_same t u e = let id : ℕ → TrainId = λ n. record { 0 = n } in ap id (eqb-true t.0 u.0 e)

itself : (n : ℕ) → (n == n) ≡ true
itself n = eq-eqb n n refl

module _ (t : TrainId) where
  abbrev Runs : ℕ → TrackPhase → RunWord → RunWord × TrackMind → Type 0
  Runs step phase v r = TrackStep t (track_at step phase) (Run t v) (Run t r.0) r.1

  abbrev Senses : ℕ → TrackPhase → SenseWord → SenseWord × TrackMind → Type 0
  Senses step phase v r = TrackStep t (track_at step phase) (Sense t v) (Sense t r.0) r.1

  run_front : (step : ℕ) (phase : TrackPhase) (v : RunWord) (r : RunWord × TrackMind) → run_turn step phase v ≡ Some r → Runs step phase v r
  run_front step Watch (Clear k) r e = absurd (cc)
  run_front step Watch (Go k) r e =
      let on = guarded _ _ _ e in
      let P : ℕ → Type 0 = λ n. Runs n Watch (Go k) r in
      subst P (eqb-true k step on.0) (subst (Runs k Watch (Go k)) (same_Some _ r on.1) (enter k))
  run_front step Watch (Across k) r e = absurd (cc)
  run_front step HeadDue v r e = absurd (cc)
  run_front step LeaveDue (Clear k) r e = absurd (cc)
  run_front step LeaveDue (Go k) r e = absurd (cc)
  run_front step LeaveDue (Across k) r e =
      let on = guarded _ _ _ e in
      let P : ℕ → Type 0 = λ n. Runs n LeaveDue (Across k) r in
      subst P (eqb-true k step on.0) (subst (Runs k LeaveDue (Across k)) (same_Some _ r on.1) (leave k))
  run_front step TailDue v r e = absurd (cc)

  sense_front : (step : ℕ) (phase : TrackPhase) (v : SenseWord) (r : SenseWord × TrackMind) → sense_turn step phase v ≡ Some r → Senses step phase v r
  sense_front step Watch v r e = absurd (cc)
  sense_front step HeadDue (Quiet k) r e =
      let on = guarded _ _ _ e in
      let P : ℕ → Type 0 = λ n. Senses n HeadDue (Quiet k) r in
      subst P (eqb-true k step on.0) (subst (Senses k HeadDue (Quiet k)) (same_Some _ r on.1) (head k))
  sense_front step HeadDue (Head k) r e = absurd (cc)
  sense_front step HeadDue (Tail k) r e = absurd (cc)
  sense_front step LeaveDue v r e = absurd (cc)
  sense_front step TailDue (Quiet k) r e = absurd (cc)
  sense_front step TailDue (Head k) r e =
      let on = guarded _ _ _ e in
      let P : ℕ → Type 0 = λ n. Senses n TailDue (Head k) r in
      subst P (eqb-true k step on.0) (subst (Senses k TailDue (Head k)) (same_Some _ r on.1) (tail k))
  sense_front step TailDue (Tail k) r e = absurd (cc)

  front : (mind : TrackMind) (word : Word) (r : Word × TrackMind) → track_on t mind word ≡ Some r → TrackStep t mind word r.0 r.1
  front mind (Resv b v) r e = absurd (cc)
  front mind (Lock b v) r e = absurd (cc)
  front mind (Mail u v) r e = absurd (cc)
  front mind (Run u v) r e =
      let on = guarded _ _ _ e in
      let m = mapped _ _ _ on.1 in
      let of : TrainId → Type 0 = λ x. TrackStep t mind (Run x v) (Run x m.0.0) m.0.1 in
      let to : Word × TrackMind → Type 0 = λ q. TrackStep t mind (Run u v) q.0 q.1 in
      subst to m.2 (subst of (sym (train_same u t on.0)) (run_front mind.step mind.phase v m.0 m.1))
  front mind (Sense u v) r e =
      let on = guarded _ _ _ e in
      let m = mapped _ _ _ on.1 in
      let of : TrainId → Type 0 = λ x. TrackStep t mind (Sense x v) (Sense x m.0.0) m.0.1 in
      let to : Word × TrackMind → Type 0 = λ q. TrackStep t mind (Sense u v) q.0 q.1 in
      subst to m.2 (subst of (sym (train_same u t on.0)) (sense_front mind.step mind.phase v m.0 m.1))

pub track_front : (t : TrainId) (mind : TrackMind) (word next : Word) (after : TrackMind) → track_on t mind word ≡ Some (next, after)
    → TrackStep t mind word next after
track_front t mind word next after e = front t mind word (next, after) e

pub track_back : (t : TrainId) (mind : TrackMind) (word next : Word) (after : TrackMind) → TrackStep t mind word next after
    → track_on t mind word ≡ Some (next, after)
track_back t _ _ _ _ (enter k) = rw (itself t.0, itself k) refl
track_back t _ _ _ _ (head k) = rw (itself t.0, itself k) refl
track_back t _ _ _ _ (leave k) = rw (itself t.0, itself k) refl
track_back t _ _ _ _ (tail k) = rw (itself t.0, itself k) refl

pub step_front : (t : TrainId) (mind : TrackMind) (kind : WordKind) (payload new : ℕ) (after : TrackMind) → track_step t mind kind payload ≡ Some (new, after)
    → PackedStep (TrackStep t mind) kind payload new after
unfolding track_step
step_front t mind kind payload new after e = packed_by _ _ kind payload new after (track_front t mind) (packed_front (track_on t mind) kind payload new after e)

pub step_back : (t : TrainId) (mind : TrackMind) (kind : WordKind) (payload new : ℕ) (after : TrackMind) → PackedStep (TrackStep t mind) kind payload new after
    → track_step t mind kind payload ≡ Some (new, after)
unfolding track_step
step_back t mind kind payload new after p = packed_back (track_on t mind) kind payload new after (packed_by _ _ kind payload new after (track_back t mind) p)

-- what is so of a step of a track, word by word
record Keeps (lay : Layout) (t : TrainId) (mind : TrackMind) (word next : Word) (after : TrackMind) : Type 0 where
  target : kind_of word ≡ track_target t mind
  owner : word_owner word ≡ nodes.Track t
  has_word : HasWord lay (kind_of word)
  kind : kind_of next ≡ kind_of word
  fits : FitsWord next
  after_is : IsTrackMind after

kept : (lay : Layout) (t : TrainId) (mind : TrackMind) (word next : Word) (after : TrackMind) → t.0 < lay.trains → TrackStep t mind word next after
    → IsTrackMind mind → FitsWord word → Keeps lay t mind word next after
kept lay t _ _ _ _ there (enter k) h fits = record { target = refl; owner = refl; has_word = there; kind = refl; fits = fits; after_is = fits }
kept lay t _ _ _ _ there (head k) h fits = record { target = refl; owner = refl; has_word = there; kind = refl; fits = h; after_is = h }
kept lay t _ _ _ _ there (leave k) h fits = record { target = refl; owner = refl; has_word = there; kind = refl; fits = omega arith; after_is = h }
kept lay t _ _ _ _ there (tail k) h fits = record { target = refl; owner = refl; has_word = there; kind = refl; fits = h; after_is = omega arith }

-- what is read is of the kind, fits and packs to the payload; what fits is small and owned: as laws of the words say
abbrev pub ReadsWords : Type 0
ReadsWords = (kind : WordKind) (n : ℕ) (word : Word) → read_word kind n ≡ Some word → IsReading kind n word

abbrev pub PacksSmall : Type 0
PacksSmall = (word : Word) → FitsWord word → IsU32 (packed_word word)

abbrev pub OwnsWords : Type 0
OwnsWords = (lay : Layout) (word : Word) → HasWord lay (kind_of word) → HasNode lay (word_owner word) → FitsWord word
    → Owns lay (word_number lay (kind_of word)) (packed_word word) (node_number lay (word_owner word))

pub keeps : ReadsWords → PacksSmall → OwnsWords → (lay : Layout) (t : TrainId) (mind : TrackMind) (kind : WordKind) (payload new : ℕ) (after : TrackMind)
    → t.0 < lay.trains → IsTrackMind mind → track_step t mind kind payload ≡ Some (new, after) → KeepsTrack lay t mind kind payload new after
keeps reads small owns lay t mind kind payload new after there h e =
    let p = step_front t mind kind payload new after e in
    let r = reads kind payload p.seen p.reads in
    let k = kept lay t mind p.seen p.left after there p.step h r.fits in
    let node : HasNode lay (word_owner p.seen) = subst (HasNode lay) (sym k.owner) there in
    let by_kind : WordKind → Type 0 = λ x. Owns lay (word_number lay x) payload (node_number lay (nodes.Track t)) in
    let by_node : NodeKind → Type 0 = λ n. Owns lay (word_number lay (kind_of p.seen)) payload (node_number lay n) in
    let by_payload : ℕ → Type 0 = λ n. Owns lay (word_number lay (kind_of p.seen)) n (node_number lay (word_owner p.seen)) in
    record {
      target = sym r.kind_is ∙ k.target;
      owned = subst by_kind r.kind_is (subst by_node k.owner (subst by_payload r.packed (owns lay p.seen k.has_word node r.fits)));
      seen = p.seen;
      left = p.left;
      saw = p.reads;
      step = p.step;
      reads = record { kind_is = k.kind ∙ r.kind_is; fits = k.fits; packed = p.packs };
      small = subst (λ n. IsU32 n) p.packs (small p.left k.fits);
      after_is = k.after_is;
    }

-- what the function gives at the target, the sentences relate, and the track owns the value
pub acts_by_lines : (t : TrainId) (mind : TrackMind) (payload : ℕ) (result : Option (ℕ × TrackMind)) → result ≡ track_step t mind (track_target t mind) payload
    → (new : ℕ) (after : TrackMind) → (result ≡ Some (new, after)) ↔ PackedStep (TrackStep t mind) (track_target t mind) payload new after
acts_by_lines t mind payload result is new after = (
  λ e. step_front t mind (track_target t mind) payload new after (sym is ∙ e),
  λ p. is ∙ step_back t mind (track_target t mind) payload new after p,
)

pub acts_owned : ((lay : Layout) (t : TrainId) (mind : TrackMind) (kind : WordKind) (payload new : ℕ) (after : TrackMind) → t.0 < lay.trains → IsTrackMind mind
    → track_step t mind kind payload ≡ Some (new, after) → KeepsTrack lay t mind kind payload new after)
    → (lay : Layout) (t : TrainId) (mind : TrackMind) (payload : ℕ) (result : Option (ℕ × TrackMind)) → t.0 < lay.trains → IsTrackMind mind
    → result ≡ track_step t mind (track_target t mind) payload
    → IfSome result (λ r. Owns lay (word_number lay (track_target t mind)) payload (node_number lay (nodes.Track t)))
acts_owned keeps_to lay t mind payload None there sound is = tt
acts_owned keeps_to lay t mind payload (Some r) there sound is = (keeps_to lay t mind (track_target t mind) payload r.0 r.1 there sound (sym is)).owned
