-- The moves of steps name trains, segments and boxes of the network.
use Rattle.std.proofs.Common.{◌≡◌, ℕ, zero, suc, ◌+◌, ◌<◌, true, List, [], ◌∷◌, ◌++◌, length, slice_get, Option, Some, None, refl, sym, ap, ◌∙◌, subst, inl}
use Rattle.std.proofs.Common.{inr, ⊎_elim, arith}
use Rattle.std.specs.Prelude.{option_map, option_to_list}
use Rattle.std.specs.Option.{option_map_or}
use Rattle.std.proofs.lemmas.Bool.{false≢true, cases_eq, eq-eqb, and_from}
use Rattle.std.proofs.lemmas.Option.{option_and_then_some, slice_get_within}
use Rattle.rl_base.specs.declared.ids.SegId.{SegId}
use Rattle.rl_base.specs.declared.ids.BoxId.{BoxId}
use Rattle.rl_base.specs.declared.ids.TrainId.{TrainId}
use Rattle.rl_base.specs.declared.job.Verb.{Verb}
use Rattle.rl_base.specs.declared.job.Verb.TheVariants as verbs
use Rattle.rl_base.specs.declared.kind.Side.{Side}
use Rattle.rl_base.specs.Kind.{joining_side}
use Rattle.rl_model.specs.declared.moves.Move.{Move}
use Rattle.rl_model.specs.declared.moves.Move.TheVariants as moves
use Rattle.rl_model.specs.declared.network.SwitchBox.{SwitchBox}
use Rattle.rl_model.specs.declared.network.Train.{Train}
use Rattle.rl_model.specs.declared.network.NetworkPlan.{NetworkPlan}
use Rattle.rl_model.specs.Network.{arm_at, arm_of, segment_at, steps_of, route_segment, route_box, IsNetwork}
use Rattle.rl_model.specs.Moves.{IsMoveOf}
use Rattle.rl_words.specs.declared.lock.Path.{Path}
use Rattle.rl_words.specs.declared.mail.Letter.{Letter}
use Rattle.rl_box.specs.Steps.{path_of}
use Rattle.rl_protocol.specs.Line.{Line, same_number, is_held_by, IsConsistent}
use Rattle.rl_protocol.specs.State.{State}
use Rattle.rl_protocol.specs.Minds.{train, box}
use Rattle.rl_protocol.specs.Steps.{Step, post, hear_yes, hear_no, go, quiet, take, grant, refuse, release, lock_now, lock_ask, lock_moved, unlock, say_yes}
use Rattle.rl_protocol.specs.Steps.{say_no, busy, throw, settle, enter, head, leave, tail, StepFits}
use Rattle.rl_protocol.specs.StepMoves.{seg_at, refusal_of, move_of}
use Rattle.rl_protocol.specs.Runs.{state_after, IsStepRun, moves_of}
use Rattle.rl_protocol.specs.Agreement.{Agrees, is_passing, is_locked_by, lock_holder, HasWhatIsAsked}
use Rattle.rl_protocol.specs.Worlds.{IsLineOf, IsRailway}
use Rattle.rl_protocol.proofs.Known.{Known, HasTaken}
use Rattle.rl_protocol.proofs.Agreed.{known_of}
use Rattle.rl_protocol.proofs.Agreed.{agrees as agrees_run}
use Rattle.rl_protocol.proofs.Places.{ArePlaced, placed}
use Rattle.rl_protocol.proofs.Reserving.{there_at}
use Rattle.rl_protocol.proofs.Locking.{IsPathAt}
use Rattle.rl_protocol.proofs.Paths.{lock_is_own}
use Rattle.rl_protocol.proofs.Moved.{run_passing, held_lock, letter_there, asked_at, waited_at, passing_within}
use Rattle.rl_protocol.proofs.Resting.{stays_at_rest, rest_holds}
use Rattle.rl_protocol.proofs.Ranks.{about}
use Rattle.rl_protocol.proofs.Totals.{about_within}

-- the move, if there is one, is one of the network
abbrev pub NamedBy : NetworkPlan → Option Move → Type 0
NamedBy net None = Unit {0}
NamedBy net (Some m) = IsMoveOf net m

-- a box with a segment is there, and so is a segment with an arm
box_in : (net : NetworkPlan) (b x s : ℕ) → segment_at net b x ≡ Some s → b < length net.boxes
box_in net b x s h =
    option_and_then_some (λ (y : SwitchBox). option_map (λ (z : SegId). z.0) (slice_get y.arms x)) (slice_get net.boxes b) s h
    (λ y there _. slice_get_within net.boxes b y there)

segment_in : (net : NetworkPlan) (s b x : ℕ) → arm_of net s b ≡ Some x → s < length net.segments
segment_in net s b x h = option_and_then_some (arm_at b) (slice_get net.segments s) x h (λ g there _. slice_get_within net.segments s g there)

-- a train with a route is there
train_in : (net : NetworkPlan) (t : ℕ) → (steps_of net t ≡ 0 → ⊥) → t < length net.trains
train_in net t some = of (slice_get net.trains t) refl
  where
    of : (o : Option Train) → slice_get net.trains t ≡ o → t < length net.trains
    of None e = absurd (some (ap (λ o. option_map_or (λ (r : Train). length r.boxes) o 0) e))
    of (Some r) e = slice_get_within net.trains t r e

route_in : (net : NetworkPlan) (t k s : ℕ) → route_segment net t k ≡ Some s → t < length net.trains
route_in net t k s h =
    option_and_then_some (λ (r : Train). option_map (λ (z : SegId). z.0) (slice_get r.segments k)) (slice_get net.trains t) s h
    (λ r there _. slice_get_within net.trains t r there)

segment_of_route_in : (net : NetworkPlan) (t k s : ℕ) → IsNetwork net → route_segment net t k ≡ Some s → s < length net.segments
segment_of_route_in net t k s network h =
    option_and_then_some (λ (r : Train). option_map (λ (z : SegId). z.0) (slice_get r.segments k)) (slice_get net.trains t) s h
    (λ r there _. (network.trains t r there).segments k s h)

box_of_route_in : (net : NetworkPlan) (t k b : ℕ) → IsNetwork net → route_box net t k ≡ Some b → b < length net.boxes
box_of_route_in net t k b network h =
    option_and_then_some (λ (r : Train). option_map (λ (z : BoxId). z.0) (slice_get r.boxes k)) (slice_get net.trains t) b h
    (λ r there _. (network.trains t r there).boxes k b h)

-- the numbers that are the same are both there
second_there : (o p : Option ℕ) → same_number o p ≡ true → (n : ℕ) × (p ≡ Some n)
second_there None p h = absurd (false≢true h)
second_there (Some n) None h = absurd (false≢true h)
second_there (Some n) (Some m) h = (m, refl)

module _ (net : NetworkPlan) (line : Line) (tries : ℕ) (s : State) (network : IsNetwork net) (are : ArePlaced net) (of : IsLineOf net line)
    (laws : IsConsistent line) (agrees : Agrees line tries s) where
  place_in : (b : ℕ) (x r : ℕ) → segment_at net b x ≡ Some r → (r < length net.segments) × (b < length net.boxes)
  place_in b x r h = (segment_in net r b x (are.to_arm r b x h), box_in net b x r h)

  letter_in : (b t : ℕ) (l : Letter) → HasTaken line s b t l → ((seg_at line b l.x).0 < length net.segments) × (b < length net.boxes)
  letter_in b t l has = place_in b l.x.0 (seg_at line b l.x).0
      (there_at net line b l.x.0 of (letter_there net line tries s network are of laws agrees b t l has))

  with_steps : (t : ℕ) → (line.steps t ≡ 0 → ⊥) → t < length net.trains
  with_steps t some = train_in net t (λ e. some (of.steps t ∙ e))

  -- who holds a place is there: it has a route to go, or rests where it began
  holder_in : (u b x : ℕ) → is_held_by u (s.resv b x) ≡ true → u < length net.trains
  holder_in u b x h =
      ⊎_elim
      (λ none.
      let rests = stays_at_rest line tries s u agrees none in
      let on = sym (of.ends u (s.trains u).step b x) ∙ sym (rest_holds line tries s agrees u rests b x) ∙ h in
      let there = second_there (segment_at net b x) (route_segment net u (s.trains u).step) on in
      route_in net u (s.trains u).step there.0 there.1)
      (λ some. with_steps u some)
      (cases_eq (line.steps u) 0)

  locker_in : (b : ℕ) (u : TrainId) → lock_holder (s.lock b) ≡ Some u → u.0 < length net.trains
  locker_in b u h =
      let set = held_lock (s.lock b) u h in
      let p = set.0 in
      let mine : is_locked_by (s.lock b) p.train.0 p.x.0 p.y.0 ≡ true =
      ap (λ w. is_locked_by w p.train.0 p.x.0 p.y.0) set.1
      ∙ and_from _ _ (and_from _ _ (eq-eqb p.train.0 p.train.0 refl) (eq-eqb p.x.0 p.x.0 refl)) (eq-eqb p.y.0 p.y.0 refl) in
      let own = lock_is_own line tries s p.train.0 b p.x.0 p.y.0 agrees (sym (agrees.locks.exact p.train.0 b p.x.0 p.y.0) ∙ mine) in
      let within = own.within in
      subst (λ (z : TrainId). z.0 < length net.trains) set.2 (with_steps p.train.0 (λ e. none_below (s.trains p.train.0).step (line.steps p.train.0) within e))
    where
      none_below : (m n : ℕ) → m < n → n ≡ 0 → ⊥
      none_below m n h e = omega arith

  refusal_named : (b t : ℕ) (l : Letter) (u : TrainId) → t < length net.trains → HasTaken line s b t l → (v : Verb) → HasWhatIsAsked s b l u v
      → NamedBy net (refusal_of line b t l u v)
  refusal_named b t l u there has verbs.Reserve held =
      let place = letter_in b t l has in
      (there, place.0, place.1, holder_in u.0 b l.x.0 (ap (is_held_by u.0) held ∙ eq-eqb u.0 u.0 refl))
  refusal_named b t l u there has verbs.Lock held = (there, (letter_in b t l has).1, locker_in b u held)
  refusal_named b t l u there has verbs.Release held = absurd held
  refusal_named b t l u there has verbs.Unlock held = absurd held

  lock_named : (b t : ℕ) (p : Path) → t < length net.trains → IsPathAt net line b p
      → IsMoveOf net (moves.Lock (train t) (box b) (seg_at line b p.x) (seg_at line b p.y))
  lock_named b t p there path = let from = place_in b p.x.0 _ path.x in let to = place_in b p.y.0 _ path.y in (there, from.1, from.0, to.0)

  settle_named : (b : ℕ) (o : Option Side) → b < length net.boxes → NamedBy net (option_map (moves.Settle (box b)) o)
  settle_named b None there = tt
  settle_named b (Some side) there = there

  pub named_by : (step : Step) → StepFits line s step → Known line s step → NamedBy net (move_of line step)
  named_by step fits known = for step fits known (with_steps (about step) (about_within line tries s step agrees fits known))
    where
      passing_at : (t k : ℕ) → (is_passing (s.trains t) ≡ true) × ((s.trains t).step ≡ k) → k < line.steps t
      passing_at t k h = subst (λ z. z < line.steps t) h.1 (passing_within net line tries s network are of laws agrees t h.0)

      for : (step : Step) → StepFits line s step → Known line s step → about step < length net.trains → NamedBy net (move_of line step)
      for (post t l) fits known there = tt
      for (hear_yes t l) fits known there = tt
      for (hear_no t l u job) fits known there = tt
      for (go t) fits known there = tt
      for (quiet t) fits known there = tt
      for (take b t l) fits known there = tt
      for (grant b t l) fits known there = let place = letter_in b t l known.0 in (there, place.0, place.1)
      for (refuse b t l u) fits known there = tt
      for (release b t l) fits known there = let place = letter_in b t l known.0 in (there, place.0, place.1)
      for (lock_now b t l side) fits known there =
          lock_named b t (path_of (train t) l) there (asked_at net line tries s network are of laws agrees b t l known fits.1)
      for (lock_ask b t l side) fits known there =
          lock_named b t (path_of (train t) l) there (asked_at net line tries s network are of laws agrees b t l known fits.1)
      for (lock_moved b p) fits known there = tt
      for (unlock b t l side) fits known there = (there, (letter_in b t l known).1)
      for (say_yes b t l) fits known there = tt
      for (say_no b t l u) fits known there = refusal_named b t l u there known.0 l.verb (agrees.answers.has b (train t) u l fits.0)
      for (busy b t l p) fits known there = tt
      for (throw b p) fits known there = (place_in b p.x.0 _ (waited_at net line tries s network are of laws agrees b p known.1).x).1
      for (settle b p) fits known there =
          settle_named b (joining_side (line.kind b) p.x.0 p.y.0) (place_in b p.x.0 _ (waited_at net line tries s network are of laws agrees b p known.1).x).1
      for (enter t k) fits known there =
          let step = of.rows t k (passing_at t k (run_passing s t k (agrees.passage t) (inl fits.1))) in (
            there,
            box_of_route_in net t k _ network step.through,
            segment_of_route_in net t k _ network step.from,
            segment_of_route_in net t
                (k + 1) _ network step.to,
          )
      for (head t k) fits known there = tt
      for (leave t k) fits known there =
          let step = of.rows t k (passing_at t k (run_passing s t k (agrees.passage t) (inr fits.1))) in
          (there, segment_of_route_in net t k _ network step.from)
      for (tail t k) fits known there = tt

pub step_named : (net : NetworkPlan) (line : Line) (tries : ℕ) (s : State) (step : Step) (m : Move) → IsRailway net line → Agrees line tries s
    → StepFits line s step → move_of line step ≡ Some m → IsMoveOf net m
step_named net line tries s step m is old fits h =
    subst (NamedBy net) h (named_by net line tries s is.network (placed net is.network) is.line_is is.consistent old step fits
    (known_of line tries s step old fits))

-- what holds of the items of two lists holds of those of both together
both_lists : (P : Move → Type 0) (xs ys : List Move) → ((k : ℕ) (m : Move) → slice_get xs k ≡ Some m → P m)
    → ((k : ℕ) (m : Move) → slice_get ys k ≡ Some m → P m) → (k : ℕ) (m : Move) → slice_get (xs ++ ys) k ≡ Some m → P m
both_lists P [] ys f g k m h = g k m h
both_lists P (x ∷ xs) ys f g zero m h = f zero m h
both_lists P (x ∷ xs) ys f g (suc k) m h = both_lists P xs ys (λ j. f (suc j)) g k m h

pub run_named : (net : NetworkPlan) (line : Line) (tries : ℕ) (steps : List Step) → IsRailway net line → IsStepRun line tries steps → (k : ℕ) (m : Move)
    → slice_get (moves_of line steps) k ≡ Some m → IsMoveOf net m
run_named net line tries [] is run k m h = absurd (cc)
run_named net line tries (step ∷ steps) is run k m h =
    both_lists (IsMoveOf net) (moves_of line steps) (option_to_list (move_of line step)) (run_named net line tries steps is run.0)
    (one (move_of line step) refl) k m h
  where
    one : (o : Option Move) → move_of line step ≡ o → (k : ℕ) (m : Move) → slice_get (option_to_list o) k ≡ Some m → IsMoveOf net m
    one None e k m h = absurd (cc)
    one (Some x) e zero m h = step_named net line tries (state_after line tries steps) step m is (agrees_run line tries steps is.consistent run.0) run.1 (e ∙ h)
    one (Some x) e (suc k) m h = absurd (cc)
