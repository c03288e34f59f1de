-- The parts that a core's words say are parts of a network, and their world is the core's.
use Rattle.std.proofs.Common.{◌≡◌, ℕ, ◌+◌, ◌<◌, ◌≤◌, Bool, true, false, ◌||◌, List, length, slice_get, Option, Some, None, refl, sym, ap, ◌∙◌, subst, inl, inr, arith}
use Rattle.std.specs.Prelude.{nat_lt, option_map}
use Rattle.std.specs.Option.{option_map_or}
use Rattle.std.proofs.lemmas.Bool.{false≢true, cases_lt, eqb-true, and_parts}
use Rattle.std.proofs.lemmas.Bool.Decides.{nat_tests}
use Rattle.std.proofs.lemmas.Option.{slice_get_past, slice_get_cases, slice_get_within, option_and_then_some}
use Rattle.rl_base.specs.Kind.{arms_of}
use Rattle.rl_base.specs.declared.ids.SegId.{SegId}
use Rattle.rl_base.specs.declared.ids.TrainId.{TrainId}
use Rattle.rl_base.specs.declared.kind.Kind.TheVariants.{Buffer}
use Rattle.rl_base.specs.declared.kind.Side.TheVariants.{Left}
use Rattle.rl_model.specs.declared.moves.Points.TheVariants as points
use Rattle.rl_model.specs.declared.network.SwitchBox.{SwitchBox}
use Rattle.rl_model.specs.declared.network.NetworkPlan.{NetworkPlan}
use Rattle.rl_model.specs.Network.{IsNetwork, arm_at, arm_of, kind_of, segment_at, route_segment, route_box}
use Rattle.rl_model.specs.Safety.{IsKept}
use Rattle.rl_words.specs.declared.lock.LockWord.{LockWord}
use Rattle.rl_words.specs.declared.lock.LockWord.TheVariants.{Free, Asked, Moving, Moved, Locked}
use Rattle.rl_words.specs.declared.lock.Path.{Path}
use Rattle.rl_words.specs.declared.run.RunWord.{RunWord}
use Rattle.rl_words.specs.declared.run.RunWord.TheVariants.{Clear, Go, Across}
use Rattle.rl_words.specs.Readings.{read_run, read_lock}
use Rattle.rl_tables.specs.Tables.{AreTablesOf}
use Rattle.rl_domain.specs.declared.parts.Spot.{Spot}
use Rattle.rl_domain.specs.declared.states.BoxState.{BoxState}
use Rattle.rl_domain.specs.declared.states.PathLock.{PathLock}
use Rattle.rl_domain.specs.Parts.{occupies_at, across_at, holds_at, world_of_parts, IsSpot, AreParts}
use Rattle.rl_domain.specs.Rows.{IsLock}
use Rattle.rl_domain.specs.States.{is_train, is_lock, holder_at}
use Rattle.rl_domain.proofs.Arms.{IsAtArm-from_arm, arms_few, holder_past_arms, option_cases}
use Rattle.rl_domain.proofs.Worlds.{same_world}
use Rattle.rl_protocol.specs.Line.{is_number, is_held_by}
use Rattle.rl_protocol.specs.Worlds.{stands_on, is_across, steps_made, is_passage, locks, points_in}
use Rattle.rl_safety.specs.Ranges.{IsOnRoute, locked_path, NamesWhatIsThere}
use Rattle.rl_safety.specs.Reading.{read, resv_in, lock_in, run_in}
use Rattle.rl_safety.specs.World.{world_of_core}
use Rattle.rl_core.specs.Cores.{Core, state_of}
use Rattle.rl_core.specs.Worlds.{spot_of, AreSpots, AreBoxStates}

-- one train
or_nothing : (p : Bool) → (p || false) ≡ p
or_nothing true = refl
or_nothing false = refl

spot_occupies : (net : NetworkPlan) (t s : ℕ) (run : RunWord) → occupies_at net t s (spot_of run) ≡ stands_on (route_segment net t) run s
spot_occupies net t s (Clear k) = or_nothing _
spot_occupies net t s (Go k) = or_nothing _
spot_occupies net t s (Across k) = refl

spot_across : (net : NetworkPlan) (t b from to : ℕ) (run : RunWord)
    → across_at net t b from to (spot_of run) ≡ is_across (route_segment net t) (route_box net t) run b from to
spot_across net t b from to (Clear k) = refl
spot_across net t b from to (Go k) = refl
spot_across net t b from to (Across k) = refl

spot_made : (run : RunWord) → (spot_of run).step ≡ steps_made run
spot_made (Clear k) = refl
spot_made (Go k) = refl
spot_made (Across k) = refl

spot_fits : (net : NetworkPlan) (t : ℕ) (run : RunWord) → IsOnRoute net t run → IsSpot net t (spot_of run)
spot_fits net t (Clear k) on = record { made = on; going = λ h. absurd (false≢true h) }
spot_fits net t (Go k) on = record { made = omega arith; going = λ h. absurd (false≢true h) }
spot_fits net t (Across k) on = record { made = omega arith; going = λ h. on }

-- a train that isn't there has no route
no_segment : (net : NetworkPlan) (t k : ℕ) → length net.trains ≤ t → route_segment net t k ≡ None
no_segment net t k past = let gone = slice_get_past net.trains t past in rw gone refl

nowhere : (net : NetworkPlan) (t s : ℕ) (run : RunWord) → length net.trains ≤ t → stands_on (route_segment net t) run s ≡ false
nowhere net t s (Clear k) past = rw (no_segment net t k past) refl
nowhere net t s (Go k) past = rw (no_segment net t k past) refl
nowhere net t s (Across k) past = rw (no_segment net t k past, no_segment net t (k + 1) past) refl

not_across : (net : NetworkPlan) (t b from to : ℕ) (run : RunWord) → length net.trains ≤ t
    → is_across (route_segment net t) (route_box net t) run b from to ≡ false
not_across net t b from to (Clear k) past = refl
not_across net t b from to (Go k) past = refl
not_across net t b from to (Across k) past =
    let gone = slice_get_past net.trains t past in rw gone refl

run_absent : (core : Core) (t : ℕ) → length core.line.trains ≤ t → run_in core.line (state_of core) t ≡ Clear 0
unfolding read_run
run_absent core t past = let test : nat_lt t (length core.line.trains) ≡ false = grind (arith, nat_tests) in rw test refl

lock_absent : (core : Core) (b : ℕ) → length core.line.boxes ≤ b → lock_in core.line (state_of core) b ≡ Free Left
unfolding read_lock
lock_absent core b past = let test : nat_lt b (length core.line.boxes) ≡ false = grind (arith, nat_tests) in rw test refl

-- who holds, in the words of the railway and of the protocol
same_holder : (t : ℕ) (o : Option TrainId) → is_train t o ≡ is_held_by t o
same_holder t None = refl
same_holder t (Some u) = grind (arith, nat_tests)

-- the lock of a box is for a path
number_there : (o : Option ℕ) (n : ℕ) → is_number o n ≡ true → o ≡ Some n
number_there None n h = absurd (false≢true h)
number_there (Some m) n h = ap Some (eqb-true m n h)

-- the train and the segments of a lock, at the arms of a path
record IsLockOf (segments : ℕ → Option ℕ) (p : Path) (t from to : ℕ) : Type 0 where
  train : p.train.0 ≡ t
  from_there : segments p.x.0 ≡ Some from
  to_there : segments p.y.0 ≡ Some to

lock_of_passage : (segments : ℕ → Option ℕ) (p : Path) (t from to : ℕ) → is_passage segments p t from to ≡ true → IsLockOf segments p t from to
lock_of_passage segments p t from to h =
    let parts = and_parts _ _ h in
    let first = and_parts _ _ parts.0 in
    record {
      train = eqb-true p.train.0 t first.0;
      from_there = number_there (segments p.x.0) from first.1;
      to_there = number_there (segments p.y.0) to parts.1;
    }

lock_path : (segments : ℕ → Option ℕ) (w : LockWord) (t from to : ℕ) → locks segments w t from to ≡ true
    → (p : Path) × (locked_path w ≡ Some p) × IsLockOf segments p t from to
lock_path segments (Free side) t from to h = absurd (false≢true h)
lock_path segments (Asked p) t from to h = (p, refl, lock_of_passage segments p t from to h)
lock_path segments (Moving p) t from to h = (p, refl, lock_of_passage segments p t from to h)
lock_path segments (Moved p) t from to h = (p, refl, lock_of_passage segments p t from to h)
lock_path segments (Locked p) t from to h = (p, refl, lock_of_passage segments p t from to h)

lock_itself : (o : Option PathLock) (l : PathLock) → o ≡ Some l → is_lock l.t.0 l.s.0 l.s2.0 o ≡ true
lock_itself o l e = rw e (grind (arith, nat_tests))

-- the segment at an arm is there
segment_there : (net : NetworkPlan) (b x s : ℕ) → IsNetwork net → segment_at net b x ≡ Some s → s < length net.segments
segment_there net b x s network h =
    option_and_then_some (λ (y : SwitchBox). option_map (λ (z : SegId). z.0) (slice_get y.arms x)) (slice_get net.boxes b) s h
    (λ y there _.
    option_and_then_some (arm_at b) (slice_get net.segments s) x ((network.boxes b y there).segments x s h)
    (λ g within _. slice_get_within net.segments s g within))

module _ (net : NetworkPlan) (core : Core) (spots : List Spot) (boxes : List BoxState) (network : IsNetwork net) (are : AreTablesOf net core.line)
    (of_trains : AreSpots core (length core.line.trains) spots) (of_boxes : AreBoxStates net core (length net.boxes) boxes) where
  trains_same : length core.line.trains ≡ length net.trains
  trains_same = are.trains.length_is

  boxes_same : length core.line.boxes ≡ length net.boxes
  boxes_same = are.boxes.length_is

  occupies_core : (t s : ℕ)
      → option_map_or (occupies_at net t s) (slice_get spots t) false ≡ stands_on (route_segment net t) (run_in core.line (state_of core) t) s
  occupies_core t s =
      elim (slice_get_cases spots t).1 [
        | inl here ↦ rw (here.2, of_trains.each t here.0 here.2) (spot_occupies net t s (run_in core.line (state_of core) t))
        | inr past ↦ rw past.1 (sym (nowhere net t s (run_in core.line (state_of core) t) (omega (arith, of_trains.size, trains_same, past.0))))
      ]

  across_core : (t b from to : ℕ)
      → option_map_or (across_at net t b from to) (slice_get spots t) false
      ≡ is_across (route_segment net t) (route_box net t) (run_in core.line (state_of core) t) b from to
  across_core t b from to =
      elim (slice_get_cases spots t).1 [
        | inl here ↦ rw (here.2, of_trains.each t here.0 here.2) (spot_across net t b from to (run_in core.line (state_of core) t))
        | inr past ↦ rw past.1 (sym (not_across net t b from to (run_in core.line (state_of core) t) (omega (arith, of_trains.size, trains_same, past.0))))
      ]

  made_core : (t : ℕ) → option_map_or (λ (x : Spot). x.step) (slice_get spots t) 0 ≡ steps_made (run_in core.line (state_of core) t)
  made_core t =
      elim (slice_get_cases spots t).1 [
        | inl here ↦ rw (here.2, of_trains.each t here.0 here.2) (spot_made (run_in core.line (state_of core) t))
        | inr past ↦ rw past.1 (sym (ap steps_made (run_absent core t (omega (arith, of_trains.size, past.0)))))
      ]

  holds_core : (t s b : ℕ)
      → option_map_or (holds_at boxes t b) (arm_of net s b) false
      ≡ option_map_or (λ x. is_held_by t (resv_in core.line (state_of core) b x)) (arm_of net s b) false
  holds_core t s b =
      elim (option_cases (arm_of net s b)) [
        | inl none ↦ rw none refl
        | inr some ↦
            let at = IsAtArm-from_arm net s b some.0 network some.1 in
            let few = arms_few (kind_of net b) in
            elim (slice_get_cases boxes b).1 [
              | inl here ↦
                  let holder = (of_boxes.each b here.0 here.2).holders some.0 (omega (arith, at.arm, few)) in
                  rw (some.1, here.2) (same_holder t (holder_at here.0 some.0) ∙ ap (is_held_by t) holder)
              | inr past ↦ absurd (omega (arith, of_boxes.size, past.0, at.box))
            ]
      ]

  locked_core : (b t from to : ℕ)
      → option_map_or (λ (x : BoxState). is_lock t from to x.lock) (slice_get boxes b) false
      ≡ locks (segment_at net b) (lock_in core.line (state_of core) b) t from to
  locked_core b t from to =
      elim (slice_get_cases boxes b).1 [
        | inl here ↦ rw here.2 ((of_boxes.each b here.0 here.2).lock t from to)
        | inr past ↦ rw past.1 (sym (ap (λ w. locks (segment_at net b) w t from to) (lock_absent core b (omega (arith, of_boxes.size, boxes_same, past.0)))))
      ]

  points_core : (b : ℕ) → option_map_or (λ (x : BoxState). x.points) (slice_get boxes b) points.Left
      ≡ points_in (kind_of net b) (lock_in core.line (state_of core) b)
  points_core b =
      elim (slice_get_cases boxes b).1 [
        | inl here ↦ rw here.2 (of_boxes.each b here.0 here.2).points
        | inr past ↦
            let kind : kind_of net b ≡ Buffer =
            ap (λ o. option_map_or (λ (x : SwitchBox). x.kind) o Buffer) (slice_get_past net.boxes b (omega (arith, of_boxes.size, past.0))) in
            rw (past.1, kind, lock_absent core b (omega (arith, of_boxes.size, boxes_same, past.0))) refl
      ]

  pub parts_of_core : world_of_parts net spots boxes ≡ world_of_core net core.line (state_of core)
  parts_of_core =
      same_world (world_of_parts net spots boxes) (world_of_core net core.line (state_of core))
      occupies_core across_core holds_core locked_core points_core made_core

  module _ (tries : ℕ) (named : NamesWhatIsThere net (read core.line tries (state_of core))) where
    lock_fits : (b : ℕ) (x : BoxState) → slice_get boxes b ≡ Some x → (l : PathLock) → x.lock ≡ Some l → IsLock net l
    lock_fits b x there l is =
        let told = sym ((of_boxes.each b x there).lock l.t.0 l.s.0 l.s2.0) ∙ lock_itself x.lock l is in
        let path = lock_path (segment_at net b) (lock_in core.line (state_of core) b) l.t.0 l.s.0 l.s2.0 told in
        record {
          train = subst (λ n. n < length net.trains) path.2.train (named.lockers b path.0 path.1);
          from = segment_there net b path.0.x.0 l.s.0 network path.2.from_there;
          to = segment_there net b path.0.y.0 l.s2.0 network path.2.to_there;
        }

    holder_fits : (b i : ℕ) (x : BoxState) (u : TrainId) → slice_get boxes b ≡ Some x → holder_at x i ≡ Some u → u.0 < length net.trains
    holder_fits b i x u there is =
        elim (cases_lt i 4) [
          | inl few ↦ named.holders b i u (sym ((of_boxes.each b x there).holders i few) ∙ is)
          | inr many ↦ let none = holder_past_arms x i many in absurd (cc)
        ]

    free_fits : (b i : ℕ) (x : BoxState) → slice_get boxes b ≡ Some x → arms_of (kind_of net b) ≤ i → holder_at x i ≡ None
    free_fits b i x there past =
        elim (cases_lt i 4) [
          | inl few ↦ (of_boxes.each b x there).holders i few ∙ named.free b i past
          | inr many ↦ holder_past_arms x i many
        ]

    pub are_parts : IsKept net (world_of_core net core.line (state_of core)) → AreParts net spots boxes
    are_parts kept =
        record {
          trains = of_trains.size ∙ trains_same;
          count = of_boxes.size;
          each = λ t x there. subst (IsSpot net t) (sym (of_trains.each t x there)) (spot_fits net t (run_in core.line (state_of core) t) (named.places t));
          states = λ b x there. record {
            lock = lock_fits b x there;
            holders = λ i u is. holder_fits b i x u there is;
            free = λ i past. free_fits b i x there past;
          };
          kept = subst (IsKept net) (sym parts_of_core) kept;
        }
