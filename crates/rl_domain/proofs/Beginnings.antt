-- The first rows of a network are its start, and fit it.
use Rattle.std.proofs.Common.{◌≡◌, ℕ, ◌<◌, ◌≤◌, ◌==◌, Bool, true, false, ◌&&◌, ◌||◌, length, Some, None, refl, sym, ◌∙◌, arith, inl, inr}
use Rattle.std.proofs.lemmas.Bool.{and_right, cases_lt}
use Rattle.std.proofs.lemmas.Bool.Decides.{nat_tests}
use Rattle.std.proofs.lemmas.Option.{slice_get_past, slice_get_cases}
use Rattle.rl_model.specs.declared.network.NetworkPlan.{NetworkPlan}
use Rattle.rl_model.specs.Network.{IsNetwork, arm_of, has_end, start_side, kind_of}
use Rattle.rl_model.specs.World.{start, starts_on, points_at}
use Rattle.rl_base.specs.Kind.{arms_of}
use Rattle.rl_base.specs.declared.ids.TrainId.{TrainId}
use Rattle.rl_domain.specs.declared.states.BoxState.{BoxState}
use Rattle.rl_domain.specs.declared.states.Standing.{Standing}
use Rattle.rl_domain.specs.States.{is_train, holder_at, stands_on, stands_across}
use Rattle.rl_model.specs.declared.moves.Points.TheVariants as points
use Rattle.rl_domain.specs.Rows.{Rows, world_of, Fits, IsStanding, IsState}
use Rattle.rl_domain.specs.FirstStates.{IsFirstStanding, IsFirstState, AreFirstStandings, AreFirstStates}
use Rattle.rl_domain.proofs.Arms.{IsAtArm, IsAtArm-from_arm, arms_few, no_segment, holder_past_arms, option_cases}
use Rattle.rl_domain.proofs.Worlds.{same_world}
use Rattle.rl_domain.proofs.Meanings.{nobody}

same_either_way : (a b : ℕ) → (a == b || false) ≡ (b == a)
same_either_way a b = grind (arith, nat_tests)

and_yes : (x : Bool) → (x && true) ≡ x
and_yes true = refl
and_yes false = refl

starts_on_past : (net : NetworkPlan) (t s : ℕ) → length net.trains ≤ t → starts_on net t s ≡ false
starts_on_past net t s past = let gone = slice_get_past net.trains t past in rw gone refl

stands_on_first : (net : NetworkPlan) (t s : ℕ) (x : Standing) → IsFirstStanding net t x → stands_on s x ≡ starts_on net t s
stands_on_first net t s x first = rw (first.off, first.on) (same_either_way s x.on.0)

stands_across_first : (net : NetworkPlan) (t b from to : ℕ) (x : Standing) → IsFirstStanding net t x → stands_across b from to x ≡ false
stands_across_first net t b from to x first = rw first.off refl

occupies_first : (net : NetworkPlan) (rows : Rows) (t s : ℕ) → AreFirstStandings net rows.trains → (world_of net rows).occupies t s ≡ starts_on net t s
occupies_first net rows t s first =
    elim (slice_get_cases rows.trains t).1 [
      | inl here ↦ rw here.2 (stands_on_first net t s here.0 (first.each t here.0 here.2))
      | inr past ↦ rw past.1 (sym (starts_on_past net t s (omega (arith, first.count, past.0))))
    ]

across_first : (net : NetworkPlan) (rows : Rows) (t b from to : ℕ) → AreFirstStandings net rows.trains → (world_of net rows).across t b from to ≡ false
across_first net rows t b from to first =
    elim (slice_get_cases rows.trains t).1 [
      | inl here ↦ rw here.2 (stands_across_first net t b from to here.0 (first.each t here.0 here.2))
      | inr past ↦ rw past.1 refl
    ]

made_first : (net : NetworkPlan) (rows : Rows) (t : ℕ) → AreFirstStandings net rows.trains → (world_of net rows).made t ≡ 0
made_first net rows t first =
    elim (slice_get_cases rows.trains t).1 [
      | inl here ↦ rw here.2 (first.each t here.0 here.2).made
      | inr past ↦ rw past.1 refl
    ]

holder_first : (net : NetworkPlan) (t s b i : ℕ) (x : BoxState) → IsAtArm net s b i → IsFirstState net b x → is_train t (holder_at x i) ≡ starts_on net t s
holder_first net t s b i x at first =
    let few = arms_few (kind_of net b) in
    let holder = (first.holders i (omega (arith, at.arm, few))).starts t in
    rw at.segment at holder

holds_first : (net : NetworkPlan) (rows : Rows) (t s b : ℕ) → IsNetwork net → AreFirstStates net rows.boxes
    → (world_of net rows).holds t s b ≡ (starts_on net t s && has_end net s b)
holds_first net rows t s b network first =
    elim (option_cases (arm_of net s b)) [
      | inl none ↦ rw none (sym (and_right (starts_on net t s) false refl))
      | inr some ↦
          let at = IsAtArm-from_arm net s b some.0 network some.1 in
          elim (slice_get_cases rows.boxes b).1 [
            | inl here ↦ rw (some.1, here.2) (holder_first net t s b some.0 here.0 at (first.each b here.0 here.2) ∙ sym (and_yes (starts_on net t s)))
            | inr past ↦ absurd (omega (arith, first.count, past.0, at.box))
          ]
    ]

locked_first : (net : NetworkPlan) (rows : Rows) (b t from to : ℕ) → AreFirstStates net rows.boxes → (world_of net rows).locked b t from to ≡ false
locked_first net rows b t from to first =
    elim (slice_get_cases rows.boxes b).1 [
      | inl here ↦ rw here.2 (rw (first.each b here.0 here.2).unlocked refl)
      | inr past ↦ rw past.1 refl
    ]

start_side_past : (net : NetworkPlan) (b : ℕ) → length net.boxes ≤ b → points_at (start_side net b) ≡ points.Left
start_side_past net b past = let gone = slice_get_past net.boxes b past in rw gone refl

points_first : (net : NetworkPlan) (rows : Rows) (b : ℕ) → AreFirstStates net rows.boxes → (world_of net rows).points b ≡ points_at (start_side net b)
points_first net rows b first =
    elim (slice_get_cases rows.boxes b).1 [
      | inl here ↦ rw here.2 (first.each b here.0 here.2).points
      | inr past ↦ rw past.1 (sym (start_side_past net b (omega (arith, first.count, past.0))))
    ]

pub start_world : (net : NetworkPlan) (rows : Rows) → IsNetwork net → AreFirstStandings net rows.trains → AreFirstStates net rows.boxes
    → world_of net rows ≡ start net
start_world net rows network standings states =
    same_world (world_of net rows) (start net)
    (λ t s. occupies_first net rows t s standings)
    (λ t b from to. across_first net rows t b from to standings)
    (λ t s b. holds_first net rows t s b network states)
    (λ b t from to. locked_first net rows b t from to states)
    (λ b. points_first net rows b states)
    (λ t. made_first net rows t standings)

first_standing_fits : (net : NetworkPlan) (t : ℕ) (x : Standing) → IsFirstStanding net t x → IsStanding net t x
first_standing_fits net t x first =
    record {
      made = omega (arith, first.made);
      on = first.segment;
      passage = λ p is. let none = first.off in absurd (cc);
      going = λ p is. let none = first.off in absurd (cc);
    }

first_free : (net : NetworkPlan) (b i : ℕ) (x : BoxState) → IsNetwork net → IsFirstState net b x → arms_of (kind_of net b) ≤ i → holder_at x i ≡ None
first_free net b i x network first past =
    elim (cases_lt i 4) [
      | inl few ↦
          let starter = rw (no_segment net b i network past) at ((first.holders i few).starts) in
          nobody (holder_at x i) starter
      | inr many ↦ holder_past_arms x i many
    ]

first_holders : (net : NetworkPlan) (b i : ℕ) (u : TrainId) (x : BoxState) → IsFirstState net b x → holder_at x i ≡ Some u → u.0 < length net.trains
first_holders net b i u x first is =
    elim (cases_lt i 4) [
      | inl few ↦ (first.holders i few).train u is
      | inr many ↦ let none = holder_past_arms x i many in absurd (cc)
    ]

first_state_fits : (net : NetworkPlan) (b : ℕ) (x : BoxState) → IsNetwork net → IsFirstState net b x → IsState net b x
first_state_fits net b x network first =
    record {
      lock = λ l is. let none = first.unlocked in absurd (cc);
      holders = λ i u is. first_holders net b i u x first is;
      free = λ i past. first_free net b i x network first past;
    }

pub start_fits : (net : NetworkPlan) (rows : Rows) → IsNetwork net → AreFirstStandings net rows.trains → AreFirstStates net rows.boxes → Fits net rows
start_fits net rows network standings states =
    record {
      trains = standings.count;
      boxes = states.count;
      standings = λ t x is. first_standing_fits net t x (standings.each t x is);
      states = λ b x is. first_state_fits net b x network (states.each b x is);
    }
