-- The chosen step: through the lower box the lowest segment, else through the higher one.
use Rattle.std.proofs.Common.{◌≡◌, ℕ, ◌<◌, ◌≤◌, List, Option, Some, None, inl, inr, sym, ap, subst, arith}
use Rattle.std.proofs.lemmas.Option.{slice_get_cases, same_Some}
use Rattle.rl_base.specs.declared.ids.BoxId.{BoxId}
use Rattle.rl_base.specs.declared.ids.Arm.{Arm}
use Rattle.rl_base.specs.declared.ids.SegId.{SegId}
use Rattle.rl_model.specs.declared.network.NetworkPlan.{NetworkPlan}
use Rattle.rl_model.specs.Network.{IsNetwork}
use Rattle.rl_plan.specs.declared.plan.PlanStep.{PlanStep}
use Rattle.rl_plan.specs.Plans.{IsChosen, LeadsTo}
use Rattle.rl_plan.specs.Choosing.{IsLowest, IsNext}
use Rattle.rl_plan.proofs.Around.{Ends, between_ends}

-- of the two ends the first is at the lower box
ends_order : (net : NetworkPlan) (s : ℕ) (e : (BoxId × Arm) × (BoxId × Arm)) → IsNetwork net → Ends net s e → e.0.0.0 < e.1.0.0
ends_order net s e network is =
    elim (slice_get_cases net.segments s).1 [
      | inl here ↦
          let both = same_Some _ _ (rw here.2 at is) in
          let low : here.0.low.at.0 ≡ e.0.0.0 = ap (λ (p : (BoxId × Arm) × (BoxId × Arm)). p.0.0.0) both in
          let high : here.0.high.at.0 ≡ e.1.0.0 = ap (λ (p : (BoxId × Arm) × (BoxId × Arm)). p.1.0.0) both in
          let order : here.0.low.at.0 < here.0.high.at.0 = (network.segments s here.0 here.2).order in
          omega arith
      | inr out ↦ let none = rw out.1 at is in absurd (cc)
    ]

-- a step that leads there, as a neighbour through its box
next_of_step : (net : NetworkPlan) (levels : List (Option ℕ)) (s n : ℕ) (step : PlanStep) → LeadsTo net levels s n step
    → IsNext net levels step.b.0 s n step.s.0
next_of_step net levels s n step leads = record { near = leads.near; level = leads.level }

-- the box of such a step moved to an equal one
at_box : (net : NetworkPlan) (levels : List (Option ℕ)) (s n b c r : ℕ) → b ≡ c → IsNext net levels b s n r → IsNext net levels c s n r
at_box net levels s n b c r e next = subst (λ (k : ℕ). IsNext net levels k s n r) e next

-- where one leads there through the lower box
pub chosen_low : (net : NetworkPlan) (levels : List (Option ℕ)) (s n : ℕ) (e : (BoxId × Arm) × (BoxId × Arm)) (r : SegId) → IsNetwork net → Ends net s e
    → IsLowest net levels e.0.0.0 s n (Some r) → IsChosen net levels s n (record { b = e.0.0; s = r })
chosen_low net levels s n e r network is lowest = record {
  leads = record { near = lowest.0.near; level = lowest.0.level };
  least = λ other leads.
      elim (between_ends net other.b.0 s other.s.0 e is leads.near) [
        | inl at ↦
            let low : r.0 ≤ other.s.0 = lowest.1 other.s.0 (at_box net levels s n other.b.0 e.0.0.0 other.s.0 at (next_of_step net levels s n other leads)) in
            inr (sym at, low)
        | inr at ↦
            let order : e.0.0.0 < e.1.0.0 = ends_order net s e network is in
            let there : other.b.0 ≡ e.1.0.0 = at in
            inl (omega arith)
      ];
}

-- where none does, and one does through the higher box
pub chosen_high : (net : NetworkPlan) (levels : List (Option ℕ)) (s n : ℕ) (e : (BoxId × Arm) × (BoxId × Arm)) (r : SegId) → Ends net s e
    → IsLowest net levels e.0.0.0 s n None → IsLowest net levels e.1.0.0 s n (Some r) → IsChosen net levels s n (record { b = e.1.0; s = r })
chosen_high net levels s n e r is none lowest = record {
  leads = record { near = lowest.0.near; level = lowest.0.level };
  least = λ other leads.
      elim (between_ends net other.b.0 s other.s.0 e is leads.near) [
        | inl at ↦ absurd (none other.s.0 (at_box net levels s n other.b.0 e.0.0.0 other.s.0 at (next_of_step net levels s n other leads)))
        | inr at ↦
            let low : r.0 ≤ other.s.0 = lowest.1 other.s.0 (at_box net levels s n other.b.0 e.1.0.0 other.s.0 at (next_of_step net levels s n other leads)) in
            inr (sym at, low)
      ];
}

-- where none does through either
pub none_leads : (net : NetworkPlan) (levels : List (Option ℕ)) (s n : ℕ) (e : (BoxId × Arm) × (BoxId × Arm)) → Ends net s e
    → IsLowest net levels e.0.0.0 s n None → IsLowest net levels e.1.0.0 s n None → (step : PlanStep) → ¬ LeadsTo net levels s n step
none_leads net levels s n e is low high step leads =
    elim (between_ends net step.b.0 s step.s.0 e is leads.near) [
      | inl at ↦ low step.s.0 (at_box net levels s n step.b.0 e.0.0.0 step.s.0 at (next_of_step net levels s n step leads))
      | inr at ↦ high step.s.0 (at_box net levels s n step.b.0 e.1.0.0 step.s.0 at (next_of_step net levels s n step leads))
    ]
