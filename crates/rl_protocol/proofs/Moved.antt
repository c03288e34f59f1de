-- Every step's move is guarded in the world of the state before it, and makes that world the one of the state after it.
use Rattle.std.proofs.Common.{◌≡◌, ◌≢◌, ℕ, ◌+◌, ◌<◌, ◌==◌, Bool, true, false, not, ◌&&◌, ◌||◌, List, [], ◌∷◌, length, zero, suc, slice_get, Option, Some, None}
use Rattle.std.proofs.Common.{refl, sym, ap, ◌∙◌, subst, inl, inr, ◌⊎◌, arith}
use Rattle.std.specs.Prelude.{is_some, unwrap_or, option_map}
use Rattle.std.proofs.lemmas.Bool.{eq-eqb, eqb-true, or_right, and_from, and_parts, false≢true}
use Rattle.std.proofs.lemmas.Bool.Decides.{nat_tests}
use Rattle.std.proofs.lemmas.Option.{option_and_then_some}
use Rattle.rl_base.specs.declared.ids.SegId.{SegId}
use Rattle.rl_base.specs.declared.ids.TrainId.{TrainId}
use Rattle.rl_base.specs.declared.job.Verb.{Verb}
use Rattle.rl_base.specs.declared.job.Verb.TheVariants as verbs
use Rattle.rl_base.specs.declared.kind.Kind.{Kind}
use Rattle.rl_base.specs.declared.kind.Kind.TheVariants.{Point}
use Rattle.rl_base.specs.declared.kind.Side.{Side}
use Rattle.rl_base.specs.declared.kind.Side.TheVariants.{Left}
use Rattle.rl_tables.specs.Kept.{can_join}
use Rattle.rl_base.specs.Kind.{arms_join, joining_side}
use Rattle.rl_model.specs.declared.moves.Move.{Move}
use Rattle.rl_model.specs.declared.moves.Move.TheVariants as moves
use Rattle.rl_model.specs.declared.network.Segment.{Segment}
use Rattle.rl_model.specs.declared.network.Train.{Train}
use Rattle.rl_model.specs.declared.network.NetworkPlan.{NetworkPlan}
use Rattle.rl_model.specs.Network.{kind_of, segment_at, route_segment, route_box, IsNetwork, IsStep}
use Rattle.rl_model.specs.World.{World, points_connect}
use Rattle.rl_model.specs.Moves.{holds_ends}
use Rattle.rl_words.specs.declared.lock.LockWord.{LockWord}
use Rattle.rl_words.specs.declared.lock.LockWord.TheVariants.{Free, Asked, Moving, Moved, Locked}
use Rattle.rl_words.specs.declared.lock.Path.{Path}
use Rattle.rl_words.specs.declared.mail.Letter.{Letter}
use Rattle.rl_words.specs.declared.mail.MailWord.TheVariants.{Empty}
use Rattle.rl_words.specs.declared.run.RunWord.TheVariants.{Clear, Go, Across}
use Rattle.rl_words.specs.Mail.{IsRefusable}
use Rattle.rl_protocol.specs.Line.{Line, is_held_by, IsConsistent, same_number}
use Rattle.rl_train.specs.Jobs.{at, is_pass}
use Rattle.rl_protocol.specs.State.{State}
use Rattle.rl_box.specs.Steps.{path_of, other_side}
use Rattle.rl_protocol.specs.Minds.{train, box, row_of, letter_of_path}
use Rattle.rl_protocol.specs.Steps.{Step, post, hear_yes, hear_no, go, quiet, take, grant, refuse, release, lock_now, lock_ask, lock_moved, unlock, say_yes}
use Rattle.rl_protocol.specs.Steps.{say_no, busy, throw, settle, enter, head, leave, tail, StepFits, next}
use Rattle.rl_protocol.specs.StepMoves.{move_of, refusal_of, seg_at}
use Rattle.rl_protocol.specs.Held.{has_done_for, done_in, held_with, locked_with, holds, has_lock, job_holds, job_locks}
use Rattle.rl_protocol.specs.Agreement.{Agrees, AgreesOnPassage, is_passing, place_of, is_locked_by, path_in_setting, lock_holder, HasWhatIsAsked}
use Rattle.rl_protocol.specs.Worlds.{IsLineOf, stands_on, is_across, locks, standing, points_in, world_at}
use Rattle.rl_protocol.proofs.Known.{Known, HasTaken}
use Rattle.rl_protocol.proofs.Places.{ArePlaced}
use Rattle.rl_protocol.proofs.Letters.{row_arms, letter_arm, letter_off, here_at, ahead_at, passing_holds, passing_locks}
use Rattle.rl_protocol.proofs.Sides.{has_side, stands_now, stands_asked}
use Rattle.rl_protocol.proofs.Reserving.{IsMove, grant_moves, release_moves, held_at, there_at}
use Rattle.rl_protocol.proofs.Locking.{IsPathAt, lock_moves, unlock_moves, throw_moves, settle_moves, moved_stays}
use Rattle.rl_protocol.proofs.Passing.{number_is, go_stays, enter_moves, leave_moves, holds_both, locked_segments, set_connects}
use Rattle.rl_protocol.proofs.Paths.{IsOwnPath, path_at, waiting_within, lock_path, unlock_path, lock_is_own, lock_held}

-- who is told to go, or is across, is passing at that step
pub run_passing : (s : State) (t k : ℕ) → AgreesOnPassage s t → (s.run t ≡ Go k) ⊎ (s.run t ≡ Across k)
    → (is_passing (s.trains t) ≡ true) × ((s.trains t).step ≡ k)
run_passing s t k passage h = (grind (arith, nat_tests), grind (arith, nat_tests))

-- two numbers that are the same by the test
same_is : (o p : Option ℕ) → same_number o p ≡ true → o ≡ p
same_is o p h = grind (arith, nat_tests)

same_off : (o p : Option ℕ) (m n : ℕ) → o ≡ Some m → p ≡ Some n → same_number o p ≡ false → m ≢ n
same_off o p m n e f h = λ same. grind (arith, nat_tests)

-- an item in range is there
pub item_there : {A : Type 0} (xs : List A) (k : ℕ) → k < length xs → (x : A) × (slice_get xs k ≡ Some x)
item_there [] k h = absurd (omega arith)
item_there (x ∷ xs) zero h = (x, refl)
item_there (x ∷ xs) (suc k) h = item_there xs k (omega arith)

-- a lock that isn't being set is set
pub set_lock : (w : LockWord) (t x y : ℕ) → is_locked_by w t x y ≡ true → ((p : Path) → path_in_setting w ≡ Some p → p.train.0 ≢ t)
    → (p : Path) × (w ≡ Locked p) × (p.x.0 ≡ x) × (p.y.0 ≡ y)
set_lock (Free side) t x y h other = absurd (false≢true h)
set_lock (Asked p) t x y h other = absurd (other p refl (eqb-true _ _ (and_parts _ _ (and_parts _ _ h).0).0))
set_lock (Moving p) t x y h other = absurd (other p refl (eqb-true _ _ (and_parts _ _ (and_parts _ _ h).0).0))
set_lock (Moved p) t x y h other = absurd (other p refl (eqb-true _ _ (and_parts _ _ (and_parts _ _ h).0).0))
set_lock (Locked p) t x y h other = (p, refl, eqb-true _ _ (and_parts _ _ (and_parts _ _ h).0).1, eqb-true _ _ (and_parts _ _ h).1)

arms_are : (kind : Kind) (p : Path) (x y : ℕ) → p.x.0 ≡ x → p.y.0 ≡ y → joining_side kind p.x.0 p.y.0 ≡ joining_side kind x y
arms_are kind p x y e f = ap (λ z. joining_side kind z p.y.0) e ∙ ap (λ z. joining_side kind x z) f

-- who has a lock that is set
pub held_lock : (w : LockWord) (u : TrainId) → lock_holder w ≡ Some u → (p : Path) × (w ≡ Locked p) × (p.train ≡ u)
held_lock (Free side) u h = cc
held_lock (Asked p) u h = cc
held_lock (Moving p) u h = cc
held_lock (Moved p) u h = cc
held_lock (Locked p) u h = (p, refl, cc)

-- the world after a step: that after its move, whose guards hold, or the same
abbrev pub MovesBy : NetworkPlan → World → World → Option Move → Type 0
MovesBy net w v None = v ≡ w
MovesBy net w v (Some m) = IsMove net w v m

module _ (net : NetworkPlan) (line : Line) (tries : ℕ) (s : State) (network : IsNetwork net) (are : ArePlaced net) (of : IsLineOf net line)
    (laws : IsConsistent line) (agrees : Agrees line tries s) where
  -- the arm of a letter in hand is there
  pub letter_there : (b t : ℕ) (l : Letter) → HasTaken line s b t l → line.has_arm b l.x.0 ≡ true
  letter_there b t l has =
      subst (λ z. line.has_arm z l.x.0 ≡ true) has.to
      (letter_arm line (row_of line t (s.trains t)) (s.trains t).job l
      (row_arms line t (s.trains t).step laws (waiting_within line tries s t agrees has.waits)) has.letter)

  -- a train that asks stands on one segment
  asks_standing : (t : ℕ) → is_pass (s.trains t).job ≡ false → s.run t ≡ Clear (place_of (s.trains t))
  asks_standing t active = let stands = (agrees.passage t).stands in grind (arith, nat_tests)

  -- and that isn't what it releases
  release_off : (b t : ℕ) (l : Letter) → HasTaken line s b t l → l.verb ≡ verbs.Release → (world_at net s).occupies t (seg_at line b l.x).0 ≡ false
  release_off b t l has verb =
      let k = place_of (s.trains t) in
      let off = letter_off line t (s.trains t) l laws (waiting_within line tries s t agrees has.waits) has.letter verb in
      ap (λ v. stands_on (route_segment net t) v (seg_at line b l.x).0) (asks_standing t has.active)
      ∙ sym (ap (λ o. same_number o (route_segment net t k)) (there_at net line b l.x.0 of (letter_there b t l has)))
      ∙ sym (of.ends t k b l.x.0)
      ∙ subst (λ z. line.ends t k z l.x.0 ≡ false) has.to off

  -- a train that passes has the steps of its route before it, and an empty mailbox
  pub passing_within : (t : ℕ) → is_passing (s.trains t) ≡ true → (s.trains t).step < line.steps t
  passing_within t h = waiting_within line tries s t agrees (and_parts _ _ h).0

  passing_mail : (t : ℕ) → is_passing (s.trains t) ≡ true → s.mail t ≡ Empty
  passing_mail t h =
      let parts = and_parts (s.trains t).waits (is_pass (s.trains t).job) h in
      agrees.mailboxes.empty t (ap (λ c. (s.trains t).waits && not c) parts.1 ∙ ap (λ c. c && false) parts.0)

  -- so it holds and has locked what is of its job
  passing_holding : (t b x : ℕ) → is_passing (s.trains t) ≡ true
      → (line.ends t (s.trains t).step b x || line.ends t ((s.trains t).step + 1) b x) ≡ true → is_held_by t (s.resv b x) ≡ true
  passing_holding t b x h ends =
      agrees.reservations.exact t b x ∙ by_job (passing_mail t h)
      ∙ passing_holds (row_of line t (s.trains t)) (s.trains t).job _ _ _ b x (and_parts (s.trains t).waits (is_pass (s.trains t).job) h).1 ends
    where
      by_job : s.mail t ≡ Empty → holds line s t b x ≡ job_holds line t (s.trains t) b x
      by_job mail = ap (λ m. held_with (done_in (λ c. has_done_for t (s.boxes c)) m) b x (job_holds line t (s.trains t) b x)) mail

  passing_locking : (t b x y : ℕ) → is_passing (s.trains t) ≡ true
      → is_locked_by (s.lock b) t x y ≡ (at (row_of line t (s.trains t)).b (row_of line t (s.trains t)).x b x && (row_of line t (s.trains t)).y.0 == y)
  passing_locking t b x y h =
      agrees.locks.exact t b x y ∙ by_job (passing_mail t h)
      ∙ passing_locks (row_of line t (s.trains t)) (s.trains t).job b x y (and_parts (s.trains t).waits (is_pass (s.trains t).job) h).1
    where
      by_job : s.mail t ≡ Empty → has_lock line s t b x y ≡ job_locks line t (s.trains t) b x y
      by_job mail = ap (λ m. locked_with (done_in (λ c. has_done_for t (s.boxes c)) m) b x y (job_locks line t (s.trains t) b x y)) mail

  -- the segments of a step that is of the route
  pub row_step : (t k : ℕ) → k < line.steps t → let row = line.row t k in IsStep net t k row.s.0 row.b.0 row.s2.0
  row_step t k h = of.rows t k h

  to_there : (t k s2 : ℕ) → route_segment net t k ≡ Some s2 → (g : Segment) × (slice_get net.segments s2 ≡ Some g)
  to_there t k s2 h =
      option_and_then_some (λ (r : Train). option_map (λ (x : SegId). x.0) (slice_get r.segments k)) (slice_get net.trains t) s2 h
      (λ r there _. item_there net.segments s2 ((network.trains t r there).segments k s2 h))

  -- the arms of a step's row have its segments
  row_from : (t k : ℕ) → k < line.steps t → let row = line.row t k in segment_at net row.b.0 row.x.0 ≡ Some row.s.0
  row_from t k h =
      let row = line.row t k in
      same_is _ _ (sym (of.ends t k row.b.0 row.x.0) ∙ (here_at line t k (laws.rows t k h)).0) ∙ (row_step t k h).from

  row_to : (t k : ℕ) → k < line.steps t → let row = line.row t k in segment_at net row.b.0 row.y.0 ≡ Some row.s2.0
  row_to t k h =
      let row = line.row t k in
      same_is _ _ (sym (of.ends t (k + 1) row.b.0 row.y.0) ∙ (ahead_at line t k (laws.rows t k h)).0) ∙ (row_step t k h).to

  row_apart : (t k : ℕ) → k < line.steps t → let row = line.row t k in row.s.0 ≢ row.s2.0
  row_apart t k h =
      let row = line.row t k in
      let is = laws.rows t k h in
      same_off _ _ _ _ (row_from t k h) (row_step t k h).to (sym (of.ends t (k + 1) row.b.0 row.x.0) ∙ is.apart row.b.0 row.x.0 (here_at line t k is).0)

  enter_holds : (t k : ℕ) → is_passing (s.trains t) ≡ true → (s.trains t).step ≡ k → holds_ends (world_at net s) net t (line.row t k).s2.0 ≡ true
  enter_holds t k passing at_k =
      let within : k < line.steps t = subst (λ z. z < line.steps t) at_k (passing_within t passing) in
      let to = (row_step t k within).to in
      let there = to_there t (k + 1) (line.row t k).s2.0 to in
      holds_both net (world_at net s) t (line.row t k).s2.0 there.0 there.1
      (λ c i h.
      held_at net s t (line.row t k).s2.0 c i h
      ∙ passing_holding t c i passing (or_right _ _ (ap (λ z. line.ends t (z + 1) c i) at_k ∙ of.ends t (k + 1) c i
      ∙ ap (λ o. same_number o (route_segment net t (k + 1))) (are.to_segment _ c i h) ∙ number_is _ _ to)))

  enter_locks : (t k : ℕ) → is_passing (s.trains t) ≡ true → (s.trains t).step ≡ k → let row = line.row t k in
      is_locked_by (s.lock row.b.0) t row.x.0 row.y.0 ≡ true
  enter_locks t k passing at_k =
      let row = line.row t k in
      passing_locking t row.b.0 row.x.0 row.y.0 passing
      ∙ ap (λ z. at (line.row t z).b (line.row t z).x row.b.0 row.x.0 && (line.row t z).y.0 == row.y.0) at_k
      ∙ and_from _ _ (and_from _ _ (eq-eqb row.b.0 row.b.0 refl) (eq-eqb row.x.0 row.x.0 refl)) (eq-eqb row.y.0 row.y.0 refl)

  -- its box is set for it
  enter_points : (t k : ℕ) → is_passing (s.trains t) ≡ true → (s.trains t).step ≡ k → let row = line.row t k in
      points_connect net row.b.0 row.s.0 row.s2.0 ((world_at net s).points row.b.0) ≡ true
  enter_points t k passing at_k =
      let row = line.row t k in
      let within : k < line.steps t = subst (λ z. z < line.steps t) at_k (passing_within t passing) in
      let set = set_lock (s.lock row.b.0) t row.x.0 row.y.0 (enter_locks t k passing at_k)
      (λ p e same. cc (agrees.mailboxes.waits row.b.0 p (agrees.locks.waiting row.b.0 ∙ e), ap s.mail same, passing_mail t passing)) in
      let side = has_side (kind_of net row.b.0) row.x.0 row.y.0
      (subst (λ z. can_join z row.x.0 row.y.0 ≡ true) (of.kind row.b.0) (laws.rows t k within).joined) in
      ap (points_connect net row.b.0 row.s.0 row.s2.0)
      (ap (points_in (kind_of net row.b.0)) set.1
      ∙ ap (λ o. standing (kind_of net row.b.0) (unwrap_or o Left)) (arms_are (kind_of net row.b.0) set.0 row.x.0 row.y.0 set.2 set.3 ∙ side.1))
      ∙ set_connects net row.b.0 row.s.0 row.s2.0 row.x.0 row.y.0 side.0 (are.to_arm _ _ _ (row_from t k within)) (are.to_arm _ _ _ (row_to t k within)) side.2

  -- the path of a letter in hand
  pub asked_at : (b t : ℕ) (l : Letter) → HasTaken line s b t l → l.verb ≡ verbs.Lock → IsPathAt net line b (path_of (train t) l)
  asked_at b t l has verb =
      path_at net line t (s.trains t) b (path_of (train t) l) laws of
      (subst (λ z. IsOwnPath line t (s.trains t) z l.x.0 l.y.0) has.to (lock_path line tries s t l agrees has.waits has.letter verb))

  pub unlocked_at : (b t : ℕ) (l : Letter) → HasTaken line s b t l → l.verb ≡ verbs.Unlock → IsPathAt net line b (path_of (train t) l)
  unlocked_at b t l has verb =
      path_at net line t (s.trains t) b (path_of (train t) l) laws of
      (subst (λ z. IsOwnPath line t (s.trains t) z l.x.0 l.y.0) has.to (unlock_path line tries s t l agrees has.waits has.letter verb))

  -- the path of a lock
  set_at : (b : ℕ) (p : Path) → is_locked_by (s.lock b) p.train.0 p.x.0 p.y.0 ≡ true → IsPathAt net line b p
  set_at b p h =
      path_at net line p.train.0 (s.trains p.train.0) b p laws of
      (lock_is_own line tries s p.train.0 b p.x.0 p.y.0 agrees (sym (agrees.locks.exact p.train.0 b p.x.0 p.y.0) ∙ h))

  -- what a box connects by the line it connects by the network
  joins_net : (b x y : ℕ) (side : Side) (answer : Bool) → arms_join (line.kind b) x y side ≡ answer → arms_join (kind_of net b) x y side ≡ answer
  joins_net b x y side answer h = ap (λ k. arms_join k x y side) (sym (of.kind b)) ∙ h

  lock_now_moves : (b t : ℕ) (l : Letter) (side : Side) → StepFits line s (lock_now b t l side) → HasTaken line s b t l
      → IsMove net (world_at net s) (world_at net (next line s (lock_now b t l side))) (moves.Lock (train t) (box b) (seg_at line b l.x) (seg_at line b l.y))
  lock_now_moves b t l side fits has =
      let held = lock_held line tries s b t l laws agrees has fits.1 in
      lock_moves net line s b (path_of (train t) l) are (asked_at b t l has fits.1) side (Locked (path_of (train t) l)) fits.2 held.0 held.1 (λ u f g. refl)
      (stands_now (kind_of net b) l.x.0 l.y.0 side (joins_net b l.x.0 l.y.0 side true fits.3))

  lock_ask_moves : (b t : ℕ) (l : Letter) (side : Side) → StepFits line s (lock_ask b t l side) → HasTaken line s b t l
      → IsMove net (world_at net s) (world_at net (next line s (lock_ask b t l side))) (moves.Lock (train t) (box b) (seg_at line b l.x) (seg_at line b l.y))
  lock_ask_moves b t l side fits has =
      let held = lock_held line tries s b t l laws agrees has fits.1 in
      lock_moves net line s b (path_of (train t) l) are (asked_at b t l has fits.1) side (Asked (path_of (train t) l)) fits.2 held.0 held.1 (λ u f g. refl)
      (stands_asked (kind_of net b) l.x.0 l.y.0 side (joins_net b l.x.0 l.y.0 side false fits.3) (joins_net b l.x.0 l.y.0 (other_side side) true fits.4))

  unlock_step_moves : (b t : ℕ) (l : Letter) (side : Side) → StepFits line s (unlock b t l side) → HasTaken line s b t l
      → IsMove net (world_at net s) (world_at net (next line s (unlock b t l side))) (moves.Unlock (train t) (box b))
  unlock_step_moves b t l side fits has =
      unlock_moves net line s b (path_of (train t) l) are (unlocked_at b t l has fits.1) side fits.2
      (ap (λ k. joining_side k l.x.0 l.y.0) (sym (of.kind b)) ∙ fits.3)
      (λ c f g. ap (λ v. is_across (route_segment net t) (route_box net t) v c f g) (asks_standing t has.active))

  -- a No to a reservation names who holds the segment, and one to a lock who has the lock
  refuse_moves : (b t : ℕ) (l : Letter) (u : TrainId) → HasTaken line s b t l → u.0 ≢ t → s.resv b l.x.0 ≡ Some u
      → IsMove net (world_at net s) (world_at net s) (moves.Refuse (train t) (seg_at line b l.x) (box b) u)
  refuse_moves b t l u has other held =
      let here = are.to_arm _ _ _ (there_at net line b l.x.0 of (letter_there b t l has)) in
      record {
        guarded = (ap is_some here, ((other, held_at net s u.0 (seg_at line b l.x).0 b l.x.0 here ∙ ap (is_held_by u.0) held ∙ eq-eqb u.0 u.0 refl), tt));
        world = refl;
      }

  bar_moves : (b t : ℕ) (u : TrainId) → u.0 ≢ t → lock_holder (s.lock b) ≡ Some u → IsMove net (world_at net s) (world_at net s) (moves.Bar (train t) (box b) u)
  bar_moves b t u other held =
      let set = held_lock (s.lock b) u held in
      let p = set.0 in
      let path = set_at b p (ap (λ w. is_locked_by w p.train.0 p.x.0 p.y.0) set.1
      ∙ and_from _ _ (and_from _ _ (eq-eqb p.train.0 p.train.0 refl) (eq-eqb p.x.0 p.x.0 refl)) (eq-eqb p.y.0 p.y.0 refl)) in
      record {
        guarded = (
          (
            other,
            (
              _,
              _,
              ap (λ v. locks (segment_at net b) v u.0 (seg_at line b p.x).0 (seg_at line b p.y).0) set.1
                  ∙ and_from _ _ (and_from _ _ (eq-eqb p.train.0 u.0 (ap (λ z. z.0) set.2)) (number_is _ _ path.x)) (number_is _ _ path.y),
            ),
          ),
          tt,
        );
        world = refl;
      }

  refusal_moves : (b t : ℕ) (l : Letter) (u : TrainId) → HasTaken line s b t l → u.0 ≢ t → (v : Verb) → IsRefusable v → HasWhatIsAsked s b l u v
      → MovesBy net (world_at net s) (world_at net s) (refusal_of line b t l u v)
  refusal_moves b t l u has other verbs.Reserve may held = refuse_moves b t l u has other held
  refusal_moves b t l u has other verbs.Lock may held = bar_moves b t u other held
  refusal_moves b t l u has other verbs.Release may held = absurd may
  refusal_moves b t l u has other verbs.Unlock may held = absurd may

  -- a point for which the box waits
  point_at : (b : ℕ) (p : Path) → (s.boxes b).waiting ≡ Some p → kind_of net b ≡ Point
  point_at b p h = sym (of.kind b) ∙ agrees.locks.points b p h

  pub waited_at : (b : ℕ) (p : Path) → HasTaken line s b p.train.0 (letter_of_path b p) → IsPathAt net line b p
  waited_at b p has =
      path_at net line p.train.0 (s.trains p.train.0) b p laws of
      (subst (λ z. IsOwnPath line p.train.0 (s.trains p.train.0) z p.x.0 p.y.0) has.to
      (lock_path line tries s p.train.0 (letter_of_path b p) agrees has.waits has.letter refl))

  settle_step_moves : (b : ℕ) (p : Path) → StepFits line s (settle b p) → Known line s (settle b p)
      → MovesBy net (world_at net s) (world_at net (next line s (settle b p))) (move_of line (settle b p))
  settle_step_moves b p fits known =
      let path = waited_at b p known.1 in
      let side = has_side (kind_of net b) p.x.0 p.y.0 path.joined in
      subst (λ o. MovesBy net (world_at net s) (world_at net (next line s (settle b p))) (option_map (moves.Settle (box b)) o))
      (sym (ap (λ k. joining_side k p.x.0 p.y.0) (of.kind b) ∙ side.1))
      (settle_moves net line s b p are path side.0 fits (point_at b p known.0) side.1)

  enter_step_moves : (t k : ℕ) → StepFits line s (enter t k)
      → IsMove net (world_at net s) (world_at net (next line s (enter t k))) (let row = line.row t k in moves.Enter (train t) row.b row.s row.s2)
  enter_step_moves t k fits =
      let passing = run_passing s t k (agrees.passage t) (inl fits.1) in
      let within : k < line.steps t = subst (λ z. z < line.steps t) passing.1 (passing_within t passing.0) in
      let row = line.row t k in
      enter_moves net line s t k (row_step t k within) (subst (λ n. k < n) (of.steps t) within) fits.1 (
        enter_holds t k passing.0 passing.1,
        locked_segments (segment_at net row.b.0) (s.lock row.b.0) t row.x.0 row.y.0 row.s.0 row.s2.0 (row_from t k within)
            (row_to t k within) (enter_locks t k passing.0 passing.1),
        enter_points t k passing.0 passing.1,
      )

  leave_step_moves : (t k : ℕ) → StepFits line s (leave t k)
      → IsMove net (world_at net s) (world_at net (next line s (leave t k))) (moves.Leave (train t) (line.row t k).s)
  leave_step_moves t k fits =
      let passing = run_passing s t k (agrees.passage t) (inr fits.1) in
      let within : k < line.steps t = subst (λ z. z < line.steps t) passing.1 (passing_within t passing.0) in
      leave_moves net line s t k (row_step t k within) fits.1 (row_apart t k within)

  pub moved_by : (step : Step) → StepFits line s step → Known line s step → MovesBy net (world_at net s) (world_at net (next line s step)) (move_of line step)
  moved_by (post t l) fits known = refl
  moved_by (hear_yes t l) fits known = refl
  moved_by (hear_no t l u job) fits known = refl
  moved_by (go t) fits known = go_stays net s t (s.trains t).step fits.2
  moved_by (quiet t) fits known = refl
  moved_by (take b t l) fits known = refl
  moved_by (grant b t l) fits known = grant_moves net line s b t l are of (letter_there b t l known.0) fits.2
  moved_by (refuse b t l u) fits known = refl
  moved_by (release b t l) fits known = release_moves net line s b t l are of (letter_there b t l known.0) fits.2 (release_off b t l known.0 fits.1)
  moved_by (lock_now b t l side) fits known = lock_now_moves b t l side fits known
  moved_by (lock_ask b t l side) fits known = lock_ask_moves b t l side fits known
  moved_by (lock_moved b p) fits known = moved_stays net s b p fits.1
  moved_by (unlock b t l side) fits known = unlock_step_moves b t l side fits known
  moved_by (say_yes b t l) fits known = refl
  moved_by (say_no b t l u) fits known =
      refusal_moves b t l u known.0 (agrees.answers.other b (train t) u l fits.0) l.verb fits.1 (agrees.answers.has b (train t) u l fits.0)
  moved_by (busy b t l p) fits known = refl
  moved_by (throw b p) fits known = throw_moves net line s b p are (waited_at b p known.1) fits (point_at b p known.0)
  moved_by (settle b p) fits known = settle_step_moves b p fits known
  moved_by (enter t k) fits known = enter_step_moves t k fits
  moved_by (head t k) fits known = refl
  moved_by (leave t k) fits known = leave_step_moves t k fits
  moved_by (tail t k) fits known = refl
