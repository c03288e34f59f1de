-- The train that was found is the one that the board shows.
use Rattle.std.proofs.Common.{◌≡◌, ℕ, ◌<◌, Bool, true, false, length, slice_get, Option, Some, None, IfSome, IfNone, is_some, sym, ap, ◌∙◌, subst, inl, inr}
use Rattle.std.specs.Option.{option_map, option_map_or}
use Rattle.std.proofs.lemmas.Option.{slice_get_cases, same_Some}
use Rattle.rl_base.specs.declared.ids.TrainId.{TrainId}
use Rattle.rl_base.specs.declared.ids.BoxId.{BoxId}
use Rattle.rl_base.specs.declared.ids.Arm.{Arm}
use Rattle.rl_model.specs.declared.network.NetworkPlan.{NetworkPlan}
use Rattle.rl_model.specs.declared.network.Segment.{Segment}
use Rattle.rl_model.specs.Network.{IsNetwork}
use Rattle.rl_model.specs.World.{World}
use Rattle.rl_board.specs.Below.{first_below, some_below}
use Rattle.rl_board.specs.Boards.{holder, low_holder, high_holder}
use Rattle.rl_board.proofs.Sums.{first_none, first_one, first_some, some_none}

pub some_found : (p : ℕ → Bool) (n : ℕ) (o : Option TrainId) → IfNone o ((t : ℕ) → p t ≡ false) → IfSome o (λ (t : TrainId). p t.0 ≡ true)
    → IfSome o (λ (t : TrainId). t.0 < n) → is_some o ≡ some_below p n
some_found p n None none some within = sym (some_none p n none)
some_found p n (Some t) none some within = sym (first_some p n t.0 within some)

pub one_found : (p : ℕ → Bool) (n : ℕ) (o : Option TrainId) → IfNone o ((t : ℕ) → p t ≡ false) → IfSome o (λ (t : TrainId). p t.0 ≡ true)
    → IfSome o (λ (t : TrainId). t.0 < n) → ((j k : ℕ) → p j ≡ true → p k ≡ true → j ≡ k)
    → option_map (λ (t : TrainId). t.0) o ≡ first_below p n
one_found p n None none some within one = sym (first_none p n (λ k low. none k))
one_found p n (Some t) none some within one = sym (first_one p n t.0 within some (λ j here. one j t.0 here some))

-- the segment has these two ends
abbrev pub Ends : NetworkPlan → ℕ → ((BoxId × Arm) × (BoxId × Arm)) → Type 0
Ends net s ends = option_map {U = (BoxId × Arm) × (BoxId × Arm)} (λ (g : Segment). ((g.low.at, g.low.arm), (g.high.at, g.high.arm))) (slice_get net.segments s)
    ≡ Some ends

record EndsAt (net : NetworkPlan) (s low high : ℕ) : Type 0 where
  segment : Segment
  there : slice_get net.segments s ≡ Some segment
  at_low : segment.low.at.0 ≡ low
  at_high : segment.high.at.0 ≡ high

ends_at : (net : NetworkPlan) (s : ℕ) (e : (BoxId × Arm) × (BoxId × Arm)) → Ends net s e → EndsAt net s e.0.0.0 e.1.0.0
ends_at net s e is =
    elim (slice_get_cases net.segments s).1 [
      | inl here ↦
          let both = same_Some _ _ (rw here.2 at is) in
          record {
            segment = here.0;
            there = here.2;
            at_low = ap (λ (p : (BoxId × Arm) × (BoxId × Arm)). p.0.0.0) both;
            at_high = ap (λ (p : (BoxId × Arm) × (BoxId × Arm)). p.1.0.0) both;
          }
      | inr out ↦ let none = rw out.1 at is in absurd (cc)
    ]

pub low_shown : (net : NetworkPlan) (w : World) (s : ℕ) (e : (BoxId × Arm) × (BoxId × Arm)) → Ends net s e → holder net w s e.0.0.0 ≡ low_holder net w s
low_shown net w s e is =
    let at = ends_at net s e is in
    ap (λ (b : ℕ). holder net w s b) (sym at.at_low)
    ∙ ap (λ (o : Option Segment). option_map_or (λ (g : Segment). holder net w s g.low.at.0) o None) (sym at.there)

pub high_shown : (net : NetworkPlan) (w : World) (s : ℕ) (e : (BoxId × Arm) × (BoxId × Arm)) → Ends net s e → holder net w s e.1.0.0 ≡ high_holder net w s
high_shown net w s e is =
    let at = ends_at net s e is in
    ap (λ (b : ℕ). holder net w s b) (sym at.at_high)
    ∙ ap (λ (o : Option Segment). option_map_or (λ (g : Segment). holder net w s g.high.at.0) o None) (sym at.there)

-- the boxes of the ends are there
pub boxes_there : (net : NetworkPlan) (s : ℕ) (e : (BoxId × Arm) × (BoxId × Arm)) → IsNetwork net → Ends net s e
    → (e.0.0.0 < length net.boxes) × (e.1.0.0 < length net.boxes)
boxes_there net s e network is =
    let at = ends_at net s e is in
    let segment = network.segments s at.segment at.there in
    (subst (λ (b : ℕ). b < length net.boxes) at.at_low segment.low.box, subst (λ (b : ℕ). b < length net.boxes) at.at_high segment.high.box)
