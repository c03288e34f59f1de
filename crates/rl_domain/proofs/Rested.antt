-- One train by itself, and the world: off the rails is derailed, and what it keeps box by box is rest.
use Rattle.std.proofs.Common.{◌≡◌, ℕ, ◌<◌, ◌≤◌, ◌==◌, ◌↔◌, true, false, ◌&&◌, length, slice_get, Some, None, is_none, refl, sym, ◌∙◌, arith, inl, inr}
use Rattle.std.proofs.lemmas.Bool.{eq-eqb, or_left, and_right, cases_lt, true≢false, false_from_ne_true}
use Rattle.std.proofs.lemmas.Option.{slice_get_cases, slice_get_within}
use Rattle.rl_base.specs.Kind.{arms_of}
use Rattle.rl_model.specs.declared.network.NetworkPlan.{NetworkPlan}
use Rattle.rl_model.specs.Network.{IsNetwork, arm_of, has_end, kind_of, segment_at}
use Rattle.rl_model.specs.Safety.{Derailed, at_a_box}
use Rattle.rl_model.specs.Reports.{Rests}
use Rattle.rl_domain.specs.declared.states.BoxState.{BoxState}
use Rattle.rl_domain.specs.declared.states.Standing.{Standing}
use Rattle.rl_domain.specs.States.{is_train, is_lock_of, holder_at, stands_across}
use Rattle.rl_domain.specs.Rows.{Rows, world_of, holder_of, Fits}
use Rattle.rl_domain.specs.Rests.{IsOffRails, is_at_arm, KeepsArms, KeepsOnly}
use Rattle.rl_domain.proofs.Arms.{IsAtArm-from_arm, arms_few, option_cases}
use Rattle.rl_domain.proofs.Meanings.{lock_of_iff, off_all_iff, no_passage}
use Rattle.rl_domain.proofs.Meetings.{there}
use Rattle.rl_domain.proofs.Moved.{and_true}
use Rattle.rl_domain.proofs.Travels.{tail_is}

pub derailed_from : (net : NetworkPlan) (rows : Rows) (t : ℕ) → IsOffRails net rows t → Derailed net (world_of net rows)
derailed_from net rows t off = at_a_box t off.box off.from off.to off.across off.apart

pub nobody_derailed : (net : NetworkPlan) (rows : Rows) (n : ℕ) → length rows.trains ≤ n → ((t : ℕ) → t < n → IsOffRails net rows t → ⊥)
    → Derailed net (world_of net rows) → ⊥
nobody_derailed net rows n few nobody (at_a_box t b from to across apart) =
    let x = there (stands_across b from to) (slice_get rows.trains t) across in
    let within = slice_get_within rows.trains t x.0 x.1 in
    nobody t (omega arith) (record { box = b; from = from; to = to; across = across; apart = apart })

-- an arm without a segment is none of the box's
past_arms : (net : NetworkPlan) (b i : ℕ) → IsNetwork net → b < length net.boxes → segment_at net b i ≡ None → arms_of (kind_of net b) ≤ i
past_arms net b i network within none =
    elim (slice_get_cases net.boxes b).1 [
      | inl here ↦
          let box = network.boxes b here.0 here.2 in
          let gone = rw here.2 at none in
          elim (slice_get_cases here.0.arms i).1 [
            | inl segment ↦ let some = rw segment.2 at gone in absurd (cc)
            | inr past ↦ rw here.2 (omega (arith, box.arms, past.0))
          ]
      | inr out ↦ absurd (omega (arith, out.0))
    ]

segment_has_arm : (net : NetworkPlan) (s b i : ℕ) → IsNetwork net → b < length net.boxes → segment_at net b i ≡ Some s → arm_of net s b ≡ Some i
segment_has_arm net s b i network within some =
    elim (slice_get_cases net.boxes b).1 [
      | inl here ↦ (network.boxes b here.0 here.2).segments i s some
      | inr out ↦ absurd (omega (arith, out.0))
    ]

keeps_holds : (net : NetworkPlan) (rows : Rows) (t s b y : ℕ) (state : BoxState) → IsNetwork net → slice_get rows.boxes b ≡ Some state
    → KeepsArms net state t s b → is_train t (holder_of net rows y b) ≡ (y == s && has_end net y b)
keeps_holds net rows t s b y state network is arms =
    elim (option_cases (arm_of net y b)) [
      | inl none ↦ rw none (sym (and_right (y == s) false refl))
      | inr some ↦
          let at = IsAtArm-from_arm net y b some.0 network some.1 in
          let few = arms_few (kind_of net b) in
          let arm_in = at.arm in
          let arm = rw at.segment at (arms some.0 (omega arith)) in
          rw (some.1, is) (arm ∙ and_true (y == s))
    ]

holds_keep : (net : NetworkPlan) (rows : Rows) (t s b i : ℕ) (state : BoxState) → IsNetwork net → Fits net rows → b < length net.boxes
    → slice_get rows.boxes b ≡ Some state → KeepsOnly net rows t s b → is_train t (holder_at state i) ≡ is_at_arm net s b i
holds_keep net rows t s b i state network fits within is keeps =
    elim (option_cases (segment_at net b i)) [
      | inl none ↦
          let free = (fits.states b state is).free i (past_arms net b i network within none) in
          rw (none, free) refl
      | inr some ↦
          let arm = segment_has_arm net some.0 b i network within some.1 in
          let holder = rw (arm, is) at (keeps.holds some.0) in
          rw some.1 (holder ∙ sym (and_true (some.0 == s)))
    ]

pub keeps_iff : (net : NetworkPlan) (rows : Rows) (t s b : ℕ) (state : BoxState) → IsNetwork net → Fits net rows → b < length net.boxes
    → slice_get rows.boxes b ≡ Some state → ((is_lock_of t state.lock ≡ false) × KeepsArms net state t s b) ↔ KeepsOnly net rows t s b
keeps_iff net rows t s b state network fits within is = (
  λ both.
      record {
        holds = λ y. keeps_holds net rows t s b y state network is both.1;
        unlocked = λ from to. rw is (false_from_ne_true _ (λ locked. true≢false (sym ((lock_of_iff t state.lock).1 (from, to, locked)) ∙ both.0)));
      },
  λ keeps. (
    false_from_ne_true _ (λ locked.
        let some = (lock_of_iff t state.lock).0 locked in
        let free = rw is at (keeps.unlocked some.0 some.1) in
        true≢false (sym some.2 ∙ free)),
    λ i few. holds_keep net rows t s b i state network fits within is keeps,
  ),
)

-- at a box that isn't there a train keeps nothing
keeps_past : (net : NetworkPlan) (rows : Rows) (t s b : ℕ) → IsNetwork net → Fits net rows → length net.boxes ≤ b → KeepsOnly net rows t s b
keeps_past net rows t s b network fits past =
    record {
      holds = λ y.
          elim (option_cases (arm_of net y b)) [
            | inl none ↦ rw none (sym (and_right (y == s) false refl))
            | inr some ↦ let within = (IsAtArm-from_arm net y b some.0 network some.1).box in absurd (omega arith)
          ];
      unlocked = λ from to.
          elim (slice_get_cases rows.boxes b).1 [
            | inl here ↦ absurd (omega (arith, here.1, fits.boxes))
            | inr out ↦ rw out.1 refl
          ];
    }

keeps_each : (net : NetworkPlan) (rows : Rows) (t s n b : ℕ) → IsNetwork net → Fits net rows → length net.boxes ≤ n
    → ((b : ℕ) → b < n → KeepsOnly net rows t s b) → KeepsOnly net rows t s b
keeps_each net rows t s n b network fits few each =
    elim (cases_lt b n) [
      | inl within ↦ each b within
      | inr past ↦ keeps_past net rows t s b network fits (omega arith)
    ]

pub rests_from : (net : NetworkPlan) (rows : Rows) (t n : ℕ) (x : Standing) → IsNetwork net → Fits net rows → slice_get rows.trains t ≡ Some x
    → is_none x.across ≡ true → length net.boxes ≤ n → ((b : ℕ) → b < n → KeepsOnly net rows t x.on.0 b) → Rests net (world_of net rows) t
rests_from net rows t n x network fits is off few each =
    record {
      off = λ b from to. rw is ((off_all_iff x).0 off b from to);
      segment = x.on.0;
      stands = rw is (or_left _ _ (eq-eqb x.on.0 x.on.0 refl));
      holds = λ s b. (keeps_each net rows t x.on.0 n b network fits few each).holds s;
      unlocked = λ b from to. (keeps_each net rows t x.on.0 n b network fits few each).unlocked from to;
    }

pub rests_off : (net : NetworkPlan) (rows : Rows) (t : ℕ) (x : Standing) → slice_get rows.trains t ≡ Some x → Rests net (world_of net rows) t → x.across ≡ None
rests_off net rows t x is rests = no_passage x (rw is at rests.off)

pub rests_keeps : (net : NetworkPlan) (rows : Rows) (t b : ℕ) (x : Standing) → slice_get rows.trains t ≡ Some x → Rests net (world_of net rows) t
    → KeepsOnly net rows t x.on.0 b
rests_keeps net rows t b x is rests =
    let own = tail_is rests.segment x (rests_off net rows t x is rests) (rw is at rests.stands) in
    rw (← own)
    (record {
      holds = λ y. rests.holds y b;
      unlocked = λ from to. rests.unlocked b from to;
    })
