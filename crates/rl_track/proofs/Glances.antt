-- At a payload of which a glance says no, a point machine and a track have no step.
use Rattle.std.proofs.Common.{◌≡◌, ℕ, ◌%◌, ◌==◌, true, false, Option, Some, None, refl, sym, ap, ◌∙◌, arith}
use Rattle.std.proofs.lemmas.Bool.{eq-eqb, or_left, or_right, true≢false}
use Rattle.rl_base.specs.declared.ids.BoxId.{BoxId}
use Rattle.rl_base.specs.declared.ids.TrainId.{TrainId}
use Rattle.rl_base.specs.declared.layout.WordKind.{WordKind}
use Rattle.rl_words.specs.declared.lock.LockWord.TheVariants.{Asked, Moving}
use Rattle.rl_words.specs.declared.run.RunWord.TheVariants.{Go, Across}
use Rattle.rl_words.specs.declared.sense.SenseWord.TheVariants.{Quiet, Head}
use Rattle.rl_words.specs.Lock.{packed_lock}
use Rattle.rl_words.specs.Run.{packed_run}
use Rattle.rl_words.specs.Sense.{packed_sense}
use Rattle.rl_words.specs.Word.{Word, FitsWord, packed_word}
use Rattle.rl_track.specs.declared.machine.MachineMind.{MachineMind}
use Rattle.rl_track.specs.declared.track.TrackMind.{TrackMind}
use Rattle.rl_track.specs.Glance.{may_move, may_report}
use Rattle.rl_track.specs.Machine.{MachineStep, machine_step}
use Rattle.rl_track.specs.Machine.MachineStep.{throw, settle}
use Rattle.rl_track.specs.Track.{TrackStep, track_step}
use Rattle.rl_track.specs.Track.TrackStep.{enter, head, leave, tail}
use Rattle.rl_track.proofs.MachineLemmas as machines
use Rattle.rl_track.proofs.TrackLemmas as tracks
use Rattle.rl_track.proofs.TrackLemmas.{ReadsWords}

-- where a step of a machine fits, the glance says so
moves : (b : BoxId) (mind : MachineMind) (word next : Word) (after : MachineMind) → MachineStep b mind word next after → FitsWord word
    → may_move (packed_word word) ≡ true
moves b _ _ _ _ (throw mind p) fits =
    let low : packed_lock (Asked p) % 8 ≡ 1 = omega arith in
    or_left (packed_lock (Asked p) % 8 == 1) _ (eq-eqb _ _ low)
moves b _ _ _ _ (settle mind p) fits =
    let low : packed_lock (Moving p) % 8 ≡ 2 = omega arith in
    or_right (packed_lock (Moving p) % 8 == 1) _ (eq-eqb _ _ low)

-- where a step of a track fits, the glance says so
reports : (t : TrainId) (mind : TrackMind) (word next : Word) (after : TrackMind) → TrackStep t mind word next after → FitsWord word
    → may_report mind (packed_word word) ≡ true
reports t _ _ _ _ (enter k) fits = let low : packed_run (Go k) % 4 ≡ 1 = omega arith in eq-eqb _ _ low
reports t _ _ _ _ (head k) fits = let low : packed_sense (Quiet k) % 4 ≡ 0 = omega arith in eq-eqb _ _ low
reports t _ _ _ _ (leave k) fits = let low : packed_run (Across k) % 4 ≡ 2 = omega arith in eq-eqb _ _ low
reports t _ _ _ _ (tail k) fits = let low : packed_sense (Head k) % 4 ≡ 1 = omega arith in eq-eqb _ _ low

-- what has no value is none
none_of : {A : Type 0} (o : Option A) → ((v : A) → o ≡ Some v → ⊥) → o ≡ None
none_of None h = refl
none_of (Some v) h = absurd (h v refl)

pub no_move : ReadsWords → (b : BoxId) (mind : MachineMind) (kind : WordKind) (payload : ℕ) → may_move payload ≡ false → machine_step b mind kind payload ≡ None
no_move reads b mind kind payload hidden = none_of (machine_step b mind kind payload) (λ r e.
    let p = machines.step_front b mind kind payload r.0 r.1 e in
    let seen = reads kind payload p.seen p.reads in
    let yes = moves b mind p.seen p.left r.1 p.step seen.fits in
    true≢false (sym yes ∙ ap may_move seen.packed ∙ hidden))

pub no_report : ReadsWords → (t : TrainId) (mind : TrackMind) (kind : WordKind) (payload : ℕ) → may_report mind payload ≡ false
    → track_step t mind kind payload ≡ None
no_report reads t mind kind payload hidden = none_of (track_step t mind kind payload) (λ r e.
    let p = tracks.step_front t mind kind payload r.0 r.1 e in
    let seen = reads kind payload p.seen p.reads in
    let yes = reports t mind p.seen p.left r.1 p.step seen.fits in
    true≢false (sym yes ∙ ap (may_report mind) seen.packed ∙ hidden))
