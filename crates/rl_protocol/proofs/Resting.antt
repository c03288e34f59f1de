-- Trains at rest: what they hold, and how the world stands then.
use Rattle.std.proofs.Common.{◌≡◌, ℕ, ◌+◌, ◌<◌, ◌≤◌, ◌==◌, Bool, true, false, cond, not, ◌&&◌, length, slice_get, Option, Some, None, refl, ap, ◌∙◌, subst}
use Rattle.std.proofs.Common.{arith}
use Rattle.std.specs.Prelude.{is_some, option_map, option_and_then}
use Rattle.std.specs.Option.{option_map_or}
use Rattle.std.proofs.lemmas.Bool.{eq-eqb, and_parts, and_from, both_ways, not-true}
use Rattle.std.proofs.lemmas.Bool.Decides.{nat_tests}
use Rattle.rl_base.specs.declared.ids.SegId.{SegId}
use Rattle.rl_base.specs.declared.kind.Side.{Side}
use Rattle.rl_model.specs.declared.network.Train.{Train}
use Rattle.rl_model.specs.declared.network.NetworkPlan.{NetworkPlan}
use Rattle.rl_model.specs.Network.{segment_at, arm_of, steps_of, route_segment, route_box, IsNetwork}
use Rattle.rl_model.specs.Reports.{Rests}
use Rattle.rl_words.specs.declared.lock.LockWord.{LockWord}
use Rattle.rl_words.specs.declared.lock.LockWord.TheVariants.{Free, Asked, Moving, Moved, Locked}
use Rattle.rl_words.specs.declared.lock.Path.{Path}
use Rattle.rl_words.specs.declared.mail.MailWord.TheVariants.{Empty}
use Rattle.rl_words.specs.declared.run.RunWord.TheVariants.{Clear}
use Rattle.rl_protocol.specs.Line.{Line, is_held_by, is_number, same_number}
use Rattle.rl_train.specs.Jobs.{is_near, is_pass}
use Rattle.rl_protocol.specs.State.{State}
use Rattle.rl_protocol.specs.Minds.{at_rest, row_of}
use Rattle.rl_protocol.specs.Held.{has_done_for, done_in, held_with, locked_with, job_holds, job_locks}
use Rattle.rl_protocol.specs.Agreement.{Agrees, is_locked_by}
use Rattle.rl_protocol.specs.Worlds.{IsRailway, stands_on, is_across, locks, world_at}
use Rattle.rl_protocol.specs.Rest.{AllAtRest, HoldsSegmentsAlone}
use Rattle.rl_protocol.proofs.Jobs.{beginning_holds, beginning_unlocked, beginning_place}
use Rattle.rl_protocol.proofs.Places.{placed}
use Rattle.rl_protocol.proofs.Passing.{number_is}
use Rattle.rl_protocol.proofs.Moved.{item_there}

-- a train that rests waits for nothing, and is about to begin
resting : (line : Line) (s : State) (t : ℕ) → at_rest line t (s.trains t) ≡ true → ((s.trains t).waits ≡ false) × (is_near (s.trains t).job ≡ true)
resting line s t h = let parts = and_parts _ _ (and_parts _ _ h).0 in (not-true _ parts.0, parts.1)

module _ (line : Line) (tries : ℕ) (s : State) (agrees : Agrees line tries s) (t : ℕ) (rests : at_rest line t (s.trains t) ≡ true) where
  waits_not : (s.trains t).waits ≡ false
  waits_not = (resting line s t rests).0

  may_begin : is_near (s.trains t).job ≡ true
  may_begin = (resting line s t rests).1

  pub rest_mail : s.mail t ≡ Empty
  rest_mail = agrees.mailboxes.empty t (ap (λ c. c && not (is_pass (s.trains t).job)) waits_not)

  pub rest_holds : (b x : ℕ) → is_held_by t (s.resv b x) ≡ line.ends t (s.trains t).step b x
  rest_holds b x =
      agrees.reservations.exact t b x ∙ ap (λ m. held_with (done_in (λ c. has_done_for t (s.boxes c)) m) b x (job_holds line t (s.trains t) b x)) rest_mail
      ∙ beginning_holds (row_of line t (s.trains t)) (s.trains t).job _ _ _ b x may_begin

  pub rest_unlocked : (b x y : ℕ) → is_locked_by (s.lock b) t x y ≡ false
  rest_unlocked b x y =
      agrees.locks.exact t b x y ∙ ap (λ m. locked_with (done_in (λ c. has_done_for t (s.boxes c)) m) b x y (job_locks line t (s.trains t) b x y)) rest_mail
      ∙ beginning_unlocked (row_of line t (s.trains t)) (s.trains t).job b x y may_begin

  pub rest_run : s.run t ≡ Clear (s.trains t).step
  rest_run =
      let stands = (agrees.passage t).stands (ap (λ c. c && is_pass (s.trains t).job) waits_not) in
      stands.0 ∙ ap (λ c. Clear (cond c ((s.trains t).step + 1) (s.trains t).step)) (beginning_place (s.trains t).job may_begin)

-- a path of a lock is its own
own_lock : (w : LockWord) (p : Path) → ((t x y : ℕ) → is_locked_by w t x y ≡ false)
    → ((u x y : ℕ) → is_locked_by w u x y ≡ (p.train.0 == u && p.x.0 == x && p.y.0 == y)) → ⊥
own_lock w p none is =
    both_ways _ (none p.train.0 p.x.0 p.y.0)
    (is p.train.0 p.x.0 p.y.0 ∙ and_from _ _ (and_from _ _ (eq-eqb p.train.0 p.train.0 refl) (eq-eqb p.x.0 p.x.0 refl)) (eq-eqb p.y.0 p.y.0 refl))

free_lock : (w : LockWord) → ((t x y : ℕ) → is_locked_by w t x y ≡ false) → (side : Side) × (w ≡ Free side)
free_lock (Free side) none = (side, refl)
free_lock (Asked p) none = absurd (own_lock (Asked p) p none (λ u x y. refl))
free_lock (Moving p) none = absurd (own_lock (Moving p) p none (λ u x y. refl))
free_lock (Moved p) none = absurd (own_lock (Moved p) p none (λ u x y. refl))
free_lock (Locked p) none = absurd (own_lock (Locked p) p none (λ u x y. refl))

pub all_at_rest : (line : Line) (tries : ℕ) (s : State) → Agrees line tries s → AllAtRest line s → HoldsSegmentsAlone line s
all_at_rest line tries s agrees rest =
    record {
      holds = λ t b x. rest_holds line tries s agrees t (rest t) b x;
      unlocked = λ b. free_lock (s.lock b) (λ t x y. rest_unlocked line tries s agrees t (rest t) b x y);
      mail = λ t. rest_mail line tries s agrees t (rest t);
    }

-- a train without steps rests
pub stays_at_rest : (line : Line) (tries : ℕ) (s : State) (t : ℕ) → Agrees line tries s → line.steps t ≡ 0 → at_rest line t (s.trains t) ≡ true
stays_at_rest line tries s t agrees none =
    let attempts = agrees.attempts t in
    let within = attempts.within in
    let under_way = attempts.under_way in
    grind (arith, nat_tests)

-- each place of a route has a segment
route_there : (net : NetworkPlan) (t k : ℕ) → IsNetwork net → t < length net.trains → k ≤ steps_of net t → (s : ℕ) × (route_segment net t k ≡ Some s)
route_there net t k network h within =
    let train = item_there net.trains t h in
    let steps : steps_of net t ≡ length train.0.boxes = ap (λ o. option_map_or (λ (r : Train). length r.boxes) o 0) train.1 in
    let shape = (network.trains t train.0 train.1).shape in
    let item = item_there train.0.segments k (omega arith) in (
      item.0.0,
      ap (option_and_then (λ (r : Train). option_map (λ (x : SegId). x.0) (slice_get r.segments k))) train.1
          ∙ ap (option_map (λ (x : SegId). x.0)) item.1,
    )

-- who has no lock by the arms has none by the segments
unlocked_segments : (segments : ℕ → Option ℕ) (w : LockWord) (t f g : ℕ) → ((x y : ℕ) → is_locked_by w t x y ≡ false) → locks segments w t f g ≡ false
unlocked_segments segments (Free side) t f g none = refl
unlocked_segments segments (Asked p) t f g none = let own = none p.x.0 p.y.0 in grind (arith, nat_tests)
unlocked_segments segments (Moving p) t f g none = let own = none p.x.0 p.y.0 in grind (arith, nat_tests)
unlocked_segments segments (Moved p) t f g none = let own = none p.x.0 p.y.0 in grind (arith, nat_tests)
unlocked_segments segments (Locked p) t f g none = let own = none p.x.0 p.y.0 in grind (arith, nat_tests)

-- a train at rest rests in the world
pub rests_in_world : (net : NetworkPlan) (line : Line) (tries : ℕ) (s : State) (t : ℕ) → IsRailway net line → Agrees line tries s → t < length net.trains
    → at_rest line t (s.trains t) ≡ true → Rests net (world_at net s) t
rests_in_world net line tries s t is agrees there rests =
    let k = (s.trains t).step in
    let run = rest_run line tries s agrees t rests in
    let segment = route_there net t k is.network there (subst (λ n. k ≤ n) (is.line_is.steps t) (agrees.attempts t).within) in
    record {
      off = λ b from to. ap (λ v. is_across (route_segment net t) (route_box net t) v b from to) run;
      segment = segment.0;
      stands = ap (λ v. stands_on (route_segment net t) v segment.0) run ∙ number_is _ _ segment.1;
      holds = λ r b. at_arm r b segment.0 segment.1 (arm_of net r b) refl;
      unlocked = λ b from to. unlocked_segments (segment_at net b) (s.lock b) t from to (λ x y. rest_unlocked line tries s agrees t rests b x y);
    }
  where
    at_arm : (r b segment : ℕ) → route_segment net t (s.trains t).step ≡ Some segment → (o : Option ℕ) → arm_of net r b ≡ o
        → option_map_or (λ x. is_held_by t (s.resv b x)) o false ≡ (r == segment && is_some o)
    at_arm r b segment on None h = and_false (r == segment)
      where
        and_false : (c : Bool) → false ≡ (c && false)
        and_false true = refl
        and_false false = refl
    at_arm r b segment on (Some x) h =
        rest_holds line tries s agrees t rests b x ∙ is.line_is.ends t (s.trains t).step b x
        ∙ ap (λ o. same_number o (route_segment net t (s.trains t).step)) ((placed net is.network).to_segment r b x h)
        ∙ ap (λ o. is_number o r) on ∙ turned segment r
      where
        turned : (m n : ℕ) → (m == n) ≡ (n == m && true)
        turned m n = grind (arith, nat_tests)
