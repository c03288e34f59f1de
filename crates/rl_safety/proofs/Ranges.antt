-- What the words of a state that agrees name is there.
use Rattle.std.proofs.Common.{◌≡◌, ℕ, ◌<◌, ◌≤◌, Bool, true, false, cond, not, ◌&&◌, ◌||◌, length, slice_get, Option, Some, None, refl, sym, ap, ◌∙◌, subst, inl}
use Rattle.std.proofs.Common.{inr, arith}
use Rattle.std.specs.Prelude.{option_map, option_and_then}
use Rattle.std.proofs.lemmas.Bool.{false≢true, both_ways, cases_lt, eq-eqb, and_from, or_right}
use Rattle.std.proofs.lemmas.Option.{slice_get_past, slice_get_cases}
use Rattle.rl_base.specs.Kind.{arms_of}
use Rattle.rl_base.specs.declared.ids.SegId.{SegId}
use Rattle.rl_base.specs.declared.ids.TrainId.{TrainId}
use Rattle.rl_model.specs.declared.network.Train.{Train}
use Rattle.rl_model.specs.declared.network.NetworkPlan.{NetworkPlan}
use Rattle.rl_model.specs.Network.{IsNetwork, segment_at, kind_of, steps_of, route_segment}
use Rattle.rl_words.specs.declared.lock.LockWord.{LockWord}
use Rattle.rl_words.specs.declared.lock.LockWord.TheVariants.{Free, Asked, Moving, Moved, Locked}
use Rattle.rl_words.specs.declared.lock.Path.{Path}
use Rattle.rl_train.specs.declared.mind.TrainMind.{TrainMind}
use Rattle.rl_protocol.specs.Agreement.{Agrees, IsPassing, is_path, is_locked_by, is_passing, is_under_way, place_of}
use Rattle.rl_protocol.specs.Counts.{HasTrains}
use Rattle.rl_train.specs.Jobs.{is_near, is_pass, has_passed}
use Rattle.rl_protocol.specs.Line.{Line, is_held_by, same_number}
use Rattle.rl_protocol.specs.State.{State}
use Rattle.rl_protocol.specs.Worlds.{IsLineOf}
use Rattle.rl_protocol.proofs.Jobs.{beginning_place}
use Rattle.rl_protocol.proofs.Resting.{stays_at_rest, rest_holds, rest_unlocked}
use Rattle.rl_safety.specs.Ranges.{IsOnRoute, locked_path, NamesWhatIsThere}

-- a segment isn't the same as one that isn't there
same_as_none : (o : Option ℕ) → same_number o None ≡ false
same_as_none None = refl
same_as_none (Some n) = refl

-- a box has no segment past its arms
no_segment : (net : NetworkPlan) (b x : ℕ) → IsNetwork net → arms_of (kind_of net b) ≤ x → segment_at net b x ≡ None
no_segment net b x network past =
    elim (slice_get_cases net.boxes b).1 [
      | inl here ↦
          let box = network.boxes b here.0 here.2 in
          let beyond = rw here.2 at past in
          let gone = slice_get_past here.0.arms x (omega (arith, box.arms, beyond)) in
          rw here.2 (rw gone refl)
      | inr out ↦ rw out.1 refl
    ]

no_arm : (arm : Bool) (s : ℕ) (o : Option ℕ) → o ≡ cond arm (Some s) None → o ≡ None → arm ≡ false
no_arm false s o is none = refl
no_arm true s o is none = absurd (cc)

-- a path is its own
path_itself : (p : Path) → is_path p p.train.0 p.x.0 p.y.0 ≡ true
path_itself p = and_from _ _ (and_from _ _ (eq-eqb p.train.0 p.train.0 refl) (eq-eqb p.x.0 p.x.0 refl)) (eq-eqb p.y.0 p.y.0 refl)

same_path : (p q : Path) → Some p ≡ Some q → is_path p q.train.0 q.x.0 q.y.0 ≡ true
same_path p q h = let same : p ≡ q = cc in rw same (path_itself q)

path_locked : (w : LockWord) (p : Path) → locked_path w ≡ Some p → is_locked_by w p.train.0 p.x.0 p.y.0 ≡ true
path_locked (Free side) p h = absurd (cc)
path_locked (Asked q) p h = same_path q p h
path_locked (Moving q) p h = same_path q p h
path_locked (Moved q) p h = same_path q p h
path_locked (Locked q) p h = same_path q p h

-- the place at which a train stands is one of its route
place_within : (steps : ℕ) (m : TrainMind) → m.step ≤ steps → (is_under_way m ≡ true → m.step < steps) → place_of m ≤ steps
place_within steps m within way = by (has_passed m.job) refl (is_near m.job) refl
  where
    by : (p : Bool) → has_passed m.job ≡ p → (q : Bool) → is_near m.job ≡ q → place_of m ≤ steps
    by false e q f = rw e within
    by true e true f = absurd (both_ways _ (beginning_place m.job f) e)
    by true e false f = let below = way (or_right m.waits _ (ap not f)) in rw e (omega arith)

-- a train in a stage of step k, which its route has
stage_on_route : (net : NetworkPlan) (s : State) (t k : ℕ) → k < steps_of net t → IsPassing s t k → IsOnRoute net t (s.run t)
stage_on_route net s t k within (inl at) = subst (IsOnRoute net t) (sym at.0) within
stage_on_route net s t k within (inr (inl at)) = subst (IsOnRoute net t) (sym at.0) within
stage_on_route net s t k within (inr (inr (inl at))) = subst (IsOnRoute net t) (sym at.0) within
stage_on_route net s t k within (inr (inr (inr (inl at)))) = subst (IsOnRoute net t) (sym at.0) (omega arith)
stage_on_route net s t k within (inr (inr (inr (inr at)))) = subst (IsOnRoute net t) (sym at.0) (omega arith)

under_way_passing : (m : TrainMind) → is_passing m ≡ true → is_under_way m ≡ true
under_way_passing m h = of m.waits (is_pass m.job) (not (is_near m.job)) h
  where
    of : (waits pass other : Bool) → (waits && pass) ≡ true → (waits || other) ≡ true
    of true pass other h = refl
    of false pass other h = absurd (false≢true h)

module _ (net : NetworkPlan) (line : Line) (tries : ℕ) (s : State) (network : IsNetwork net) (of : IsLineOf net line)
    (trains : HasTrains line (length net.trains)) (agrees : Agrees line tries s) where
  place_there : (t : ℕ) → IsOnRoute net t (s.run t)
  place_there t = by (is_passing (s.trains t)) refl
    where
      by : (b : Bool) → is_passing (s.trains t) ≡ b → IsOnRoute net t (s.run t)
      by false e =
          let at = (agrees.passage t).stands e in
          let within = place_within (line.steps t) (s.trains t) (agrees.attempts t).within (agrees.attempts t).under_way in
          subst (IsOnRoute net t) (sym at.0) (subst (λ n. place_of (s.trains t) ≤ n) (of.steps t) within)
      by true e =
          let way = (agrees.attempts t).under_way (under_way_passing (s.trains t) e) in
          stage_on_route net s t (s.trains t).step (subst (λ n. (s.trains t).step < n) (of.steps t) way) ((agrees.passage t).passing e)

  -- a train that isn't there has no route, and so holds nothing and has no lock
  holder_there : (b x : ℕ) (u : TrainId) → s.resv b x ≡ Some u → u.0 < length net.trains
  holder_there b x u held =
      elim (cases_lt u.0 (length net.trains)) [
        | inl there ↦ there
        | inr past ↦
            let rests = stays_at_rest line tries s u.0 agrees (trains u.0 past) in
            let gone : route_segment net u.0 (s.trains u.0).step ≡ None =
            ap (option_and_then (λ (r : Train). option_map (λ (z : SegId). z.0) (slice_get r.segments (s.trains u.0).step)))
            (slice_get_past net.trains u.0 past) in
            let none : is_held_by u.0 (s.resv b x) ≡ false =
            rest_holds line tries s agrees u.0 rests b x ∙ of.ends u.0 (s.trains u.0).step b x ∙ ap (same_number (segment_at net b x)) gone
            ∙ same_as_none (segment_at net b x) in
            absurd (both_ways _ none (ap (is_held_by u.0) held ∙ eq-eqb u.0 u.0 refl))
      ]

  locker_there : (b : ℕ) (p : Path) → locked_path (s.lock b) ≡ Some p → p.train.0 < length net.trains
  locker_there b p locked =
      elim (cases_lt p.train.0 (length net.trains)) [
        | inl there ↦ there
        | inr past ↦
            let rests = stays_at_rest line tries s p.train.0 agrees (trains p.train.0 past) in
            absurd (both_ways _ (rest_unlocked line tries s agrees p.train.0 rests b p.x.0 p.y.0) (path_locked (s.lock b) p locked))
      ]

  pub names_what_is_there : NamesWhatIsThere net s
  names_what_is_there =
      record {
        places = place_there;
        holders = holder_there;
        free = λ b x past. agrees.reservations.free b x
            (no_arm (line.has_arm b x) (line.segment b x).0 (segment_at net b x) (of.segment b x) (no_segment net b x network past));
        lockers = locker_there;
      }
