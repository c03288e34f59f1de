-- What a write into the state of one box changes, and that the rows still fit.
use Rattle.std.proofs.Common.{◌≡◌, ℕ, ◌<◌, length, slice_get, slice_set, Option, Some, None, refl, sym, ap, ◌∙◌, arith, inl, inr, length-set}
use Rattle.std.proofs.lemmas.Bool.{cases_eq, cases_lt, ne_eqb}
use Rattle.std.proofs.lemmas.Option.{same_Some}
use Rattle.rl_base.specs.declared.ids.TrainId.{TrainId}
use Rattle.rl_model.specs.declared.moves.Points.{Points}
use Rattle.rl_model.specs.declared.moves.Points.TheVariants as points
use Rattle.rl_model.specs.declared.network.NetworkPlan.{NetworkPlan}
use Rattle.rl_model.specs.Network.{IsNetwork, arm_of, kind_of}
use Rattle.rl_domain.specs.declared.states.BoxState.{BoxState}
use Rattle.rl_domain.specs.declared.states.PathLock.{PathLock}
use Rattle.rl_domain.specs.declared.states.Standing.{Standing}
use Rattle.rl_domain.specs.States.{holder_at, with_holder}
use Rattle.rl_domain.specs.Rows.{Rows, holder_of, Fits, IsState, IsStanding}
use Rattle.rl_domain.specs.Changes.{ChangesHolder, ChangesLock, ChangesPoints}
use Rattle.rl_domain.proofs.Arms.{IsAtArm, IsAtArm-from_arm, arms_few, holder_past_arms, option_cases}
use Rattle.rl_domain.proofs.Lookups.{get_set_same, get_set_other, look_kept, each_set, below_four}

-- the rows with another state of box b, and with another standing of train t
abbrev pub box_set : Rows → ℕ → BoxState → Rows
box_set rows b state = record rows { boxes = slice_set rows.boxes b state }

abbrev pub train_set : Rows → ℕ → Standing → Rows
train_set rows t standing = record rows { trains = slice_set rows.trains t standing }

pub box_fits : (net : NetworkPlan) (rows : Rows) (b : ℕ) (state : BoxState) → Fits net rows → IsState net b state → Fits net (box_set rows b state)
box_fits net rows b state fits is =
    record {
      trains = fits.trains;
      boxes = length-set rows.boxes b state ∙ fits.boxes;
      standings = fits.standings;
      states = each_set (IsState net) rows.boxes b state fits.states is;
    }

pub train_fits : (net : NetworkPlan) (rows : Rows) (t : ℕ) (standing : Standing) → Fits net rows → IsStanding net t standing
    → Fits net (train_set rows t standing)
train_fits net rows t standing fits is =
    record {
      trains = length-set rows.trains t standing ∙ fits.trains;
      boxes = fits.boxes;
      standings = each_set (IsStanding net) rows.trains t standing fits.standings is;
      states = fits.states;
    }

-- a write that keeps the holders of a box keeps every holder
holders_kept : (net : NetworkPlan) (rows : Rows) (b y z : ℕ) (old new : BoxState) → slice_get rows.boxes b ≡ Some old
    → ((x : ℕ) → holder_at new x ≡ holder_at old x) → holder_of net (box_set rows b new) y z ≡ holder_of net rows y z
holders_kept net rows b y z old new is keeps =
    elim (option_cases (arm_of net y z)) [
      | inl none ↦ rw none refl
      | inr some ↦ rw some.1 (look_kept (λ state. holder_at state some.0) rows.boxes b z old new None is (keeps some.0))
    ]

pub lock_changes : (rows : Rows) (b : ℕ) (old : BoxState) (lock : Option PathLock) → slice_get rows.boxes b ≡ Some old
    → ChangesLock rows (box_set rows b (record old { lock = lock })) b lock
lock_changes rows b old lock is =
    record {
      trains = refl;
      changed = rw (get_set_same rows.boxes b old (record old { lock = lock }) is) refl;
      others = λ z other. rw (get_set_other rows.boxes b z (record old { lock = lock }) other) refl;
      holders = λ net y z. holders_kept net rows b y z old (record old { lock = lock }) is (λ x. refl);
      points = λ z. look_kept (λ (x : BoxState). x.points) rows.boxes b z old (record old { lock = lock }) points.Left is refl;
    }

pub points_changes : (rows : Rows) (b : ℕ) (old : BoxState) (stand : Points) → slice_get rows.boxes b ≡ Some old
    → ChangesPoints rows (box_set rows b (record old { points = stand })) b stand
points_changes rows b old stand is =
    record {
      trains = refl;
      changed = rw (get_set_same rows.boxes b old (record old { points = stand }) is) refl;
      others = λ z other. rw (get_set_other rows.boxes b z (record old { points = stand }) other) refl;
      holders = λ net y z. holders_kept net rows b y z old (record old { points = stand }) is (λ x. refl);
      locks = λ z. look_kept (λ (x : BoxState). x.lock) rows.boxes b z old (record old { points = stand }) None is refl;
    }

holder_same : (state : BoxState) (i : ℕ) (holder : Option TrainId) → i < 4 → holder_at (with_holder state i holder) i ≡ holder
holder_same state i holder few = below_four (λ x. holder_at (with_holder state x holder) x ≡ holder) refl refl refl refl i few

holder_other_few : (state : BoxState) (i : ℕ) (holder : Option TrainId) (j : ℕ) → j < 4 → (i ≡ j → ⊥)
    → holder_at (with_holder state i holder) j ≡ holder_at state j
holder_other_few state i holder j few =
    below_four (λ x. (i ≡ x → ⊥) → holder_at (with_holder state i holder) x ≡ holder_at state x)
    (λ other. rw (ne_eqb i 0 other) refl) (λ other. rw (ne_eqb i 1 other) refl) (λ other. rw (ne_eqb i 2 other) refl)
    (λ other. rw (ne_eqb i 3 other) refl) j few

holder_other : (state : BoxState) (i : ℕ) (holder : Option TrainId) (j : ℕ) → (j ≡ i → ⊥) → holder_at (with_holder state i holder) j ≡ holder_at state j
holder_other state i holder j other =
    elim (cases_lt j 4) [
      | inl few ↦ holder_other_few state i holder j few (λ same. other (sym same))
      | inr many ↦ holder_past_arms (with_holder state i holder) j many ∙ sym (holder_past_arms state j many)
    ]

at_arm_few : (net : NetworkPlan) (s b i : ℕ) → IsAtArm net s b i → i < 4
at_arm_few net s b i at = let few = arms_few (kind_of net b) in let within = at.arm in omega arith

-- two segments at one arm of a box are one
same_segment : (net : NetworkPlan) (s y b i : ℕ) → IsNetwork net → arm_of net s b ≡ Some i → arm_of net y b ≡ Some i → y ≡ s
same_segment net s y b i network is too =
    same_Some y s (sym (IsAtArm-from_arm net y b i network too).segment ∙ (IsAtArm-from_arm net s b i network is).segment)

holder_of_other : (net : NetworkPlan) (rows : Rows) (s b i y : ℕ) (old : BoxState) (holder : Option TrainId) → IsNetwork net → arm_of net s b ≡ Some i
    → slice_get rows.boxes b ≡ Some old → (y ≡ s → ⊥) → holder_of net (box_set rows b (with_holder old i holder)) y b ≡ holder_of net rows y b
holder_of_other net rows s b i y old holder network arm is other =
    elim (option_cases (arm_of net y b)) [
      | inl none ↦ rw none refl
      | inr some ↦
          let apart : some.0 ≡ i → ⊥ = λ same. other (same_segment net s y b i network arm (some.1 ∙ ap Some same)) in
          rw some.1
          (look_kept (λ state. holder_at state some.0) rows.boxes b b old (with_holder old i holder) None is (holder_other old i holder some.0 apart))
    ]

pub holder_changes : (net : NetworkPlan) (rows : Rows) (s b i : ℕ) (old : BoxState) (holder : Option TrainId) → IsNetwork net → arm_of net s b ≡ Some i
    → slice_get rows.boxes b ≡ Some old → ChangesHolder net rows (box_set rows b (with_holder old i holder)) s b holder
holder_changes net rows s b i old holder network arm is =
    record {
      trains = refl;
      changed =
          rw arm
          (rw (get_set_same rows.boxes b old (with_holder old i holder) is)
          (holder_same old i holder (at_arm_few net s b i (IsAtArm-from_arm net s b i network arm))));
      others = λ y z other.
          elim (cases_eq z b) [
            | inl same ↦ rw same (holder_of_other net rows s b i y old holder network arm is (λ y_is. other (y_is, same)))
            | inr apart ↦ rw (get_set_other rows.boxes b z (with_holder old i holder) apart) refl
          ];
      locks = λ z. look_kept (λ (x : BoxState). x.lock) rows.boxes b z old (with_holder old i holder) None is refl;
      points = λ z. look_kept (λ (x : BoxState). x.points) rows.boxes b z old (with_holder old i holder) points.Left is refl;
    }

pub holder_state : (net : NetworkPlan) (s b i : ℕ) (old : BoxState) (holder : Option TrainId) → IsNetwork net → arm_of net s b ≡ Some i
    → ((u : TrainId) → holder ≡ Some u → u.0 < length net.trains) → IsState net b old → IsState net b (with_holder old i holder)
holder_state net s b i old holder network arm within fits =
    let at = IsAtArm-from_arm net s b i network arm in
    record {
      lock = fits.lock;
      holders = λ j u is.
          elim (cases_eq j i) [
            | inl same ↦ within u (sym (holder_same old i holder (at_arm_few net s b i at)) ∙ (rw same at is))
            | inr other ↦ fits.holders j u (sym (holder_other old i holder j other) ∙ is)
          ];
      free = λ j past. holder_other old i holder j (λ same. let arm_in = at.arm in omega arith) ∙ fits.free j past;
    }
