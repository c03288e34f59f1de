-- The moves Enter and Leave: their guards hold, and their changes are those of the run words.
use Rattle.std.proofs.Common.{◌≡◌, ◌≢◌, ℕ, ◌+◌, ◌<◌, ◌==◌, Bool, true, false, cond, not, ◌&&◌, ◌||◌, slice_get, Option, Some, None, option_and_then, refl, sym}
use Rattle.std.proofs.Common.{ap, ◌∙◌, subst, arith}
use Rattle.std.specs.Option.{option_map_or}
use Rattle.std.proofs.Math.Path.{fun_ext}
use Rattle.std.proofs.lemmas.Bool.{eq-eqb, and_from, false≢true}
use Rattle.std.proofs.lemmas.Bool.Decides.{nat_tests}
use Rattle.rl_base.specs.declared.kind.Kind.{Kind}
use Rattle.rl_base.specs.declared.kind.Kind.TheVariants.{Buffer, Joint, Point, Crossing}
use Rattle.rl_base.specs.declared.kind.Side.{Side}
use Rattle.rl_base.specs.declared.kind.Side.TheVariants.{Left, Right}
use Rattle.rl_base.specs.Kind.{arms_join}
use Rattle.rl_model.specs.declared.network.Segment.{Segment}
use Rattle.rl_model.specs.declared.network.NetworkPlan.{NetworkPlan}
use Rattle.rl_model.specs.declared.moves.Move.TheVariants as moves
use Rattle.rl_model.specs.Network.{kind_of, arm_at, arm_of, steps_of, route_segment, route_box, connects, IsStep}
use Rattle.rl_model.specs.World.{World, points_connect}
use Rattle.rl_model.specs.Moves.{holds_ends}
use Rattle.rl_words.specs.declared.lock.LockWord.{LockWord}
use Rattle.rl_words.specs.declared.run.RunWord.{RunWord}
use Rattle.rl_words.specs.declared.run.RunWord.TheVariants.{Clear, Go, Across}
use Rattle.rl_protocol.specs.Line.{Line, is_number}
use Rattle.rl_protocol.specs.State.{State, put}
use Rattle.rl_protocol.specs.Minds.{train}
use Rattle.rl_protocol.specs.Agreement.{is_locked_by}
use Rattle.rl_protocol.specs.Worlds.{stands_on, is_across, steps_made, locks, standing, world_at}
use Rattle.rl_protocol.proofs.Reserving.{IsMove}
use Rattle.rl_protocol.proofs.Locking.{connects_at}

module _ (segments boxes : ℕ → ℕ → Option ℕ) (run : ℕ → RunWord) (t k s b s2 : ℕ) (at_from : segments t k ≡ Some s) (at_box : boxes t k ≡ Some b)
    (at_to : segments t (k + 1) ≡ Some s2) where
  enter_stands : run t ≡ Go k → (u r : ℕ) → stands_on (segments u) (put run t (Across k) u) r ≡ (stands_on (segments u) (run u) r || (u == t && r == s2))
  enter_stands goes u r = grind (arith, nat_tests)

  enter_across : run t ≡ Go k → (u c f g : ℕ)
      → is_across (segments u) (boxes u) (put run t (Across k) u) c f g
      ≡ (is_across (segments u) (boxes u) (run u) c f g || (u == t && c == b && f == s && g == s2))
  enter_across goes u c f g = grind (arith, nat_tests)

  enter_made : run t ≡ Go k → (u : ℕ) → steps_made (put run t (Across k) u) ≡ steps_made (run u)
  enter_made goes u = grind (arith, nat_tests)

  leave_stands : s ≢ s2 → run t ≡ Across k → (u r : ℕ)
      → stands_on (segments u) (put run t (Clear (k + 1)) u) r ≡ (stands_on (segments u) (run u) r && not (u == t && r == s))
  leave_stands apart goes u r = grind (arith, nat_tests)

  leave_across : run t ≡ Across k → (u c f g : ℕ)
      → is_across (segments u) (boxes u) (put run t (Clear (k + 1)) u) c f g ≡ (is_across (segments u) (boxes u) (run u) c f g && not (u == t))
  leave_across goes u c f g = grind (arith, nat_tests)

  leave_made : run t ≡ Across k → (u : ℕ) → steps_made (put run t (Clear (k + 1)) u) ≡ cond (u == t) (steps_made (run u) + 1) (steps_made (run u))
  leave_made goes u = grind (arith, nat_tests)

-- worlds in which the same trains stand, are across and have made as many steps
rerun : (w : World) (o o2 : ℕ → ℕ → Bool) (a a2 : ℕ → ℕ → ℕ → ℕ → Bool) (m m2 : ℕ → ℕ) → ((u r : ℕ) → o u r ≡ o2 u r) → ((u c f g : ℕ) → a u c f g ≡ a2 u c f g)
    → ((u : ℕ) → m u ≡ m2 u) → ◌≡◌ {A = World} (record w { occupies = o; across = a; made = m }) (record w { occupies = o2; across = a2; made = m2 })
rerun w o o2 a a2 m m2 eo ea em =
    ap (λ k. record w { occupies = k; across = a; made = m }) (fun_ext (λ u. fun_ext (λ r. eo u r)))
    ∙ (ap (λ k. record w { occupies = o2; across = k; made = m }) (fun_ext (λ u. fun_ext (λ c. fun_ext (λ f. fun_ext (λ g. ea u c f g)))))
    ∙ ap (λ k. record w { occupies = o2; across = a2; made = k }) (fun_ext em))

pub number_is : (o : Option ℕ) (n : ℕ) → o ≡ Some n → is_number o n ≡ true
number_is o n h = ap (λ p. is_number p n) h ∙ eq-eqb n n refl

module _ (net : NetworkPlan) (line : Line) (s : State) (t k : ℕ) (step : let row = line.row t k in IsStep net t k row.s.0 row.b.0 row.s2.0) where
  pub enter_moves : k < steps_of net t → s.run t ≡ Go k
      → (let row = line.row t k in
      (holds_ends (world_at net s) net t row.s2.0 ≡ true) × ((world_at net s).locked row.b.0 t row.s.0 row.s2.0 ≡ true)
      × (points_connect net row.b.0 row.s.0 row.s2.0 ((world_at net s).points row.b.0) ≡ true))
      → let row = line.row t k in
      IsMove net (world_at net s) (world_at net (record s { run = put s.run t (Across k) })) (moves.Enter (train t) row.b row.s row.s2)
  enter_moves below goes has =
      let made : (world_at net s).made t ≡ k = ap steps_made goes in
      record {
        guarded = (
          (
            subst (λ n. n < steps_of net t) (sym made) below,
            subst (λ n. IsStep net t n (line.row t k).s.0 (line.row t k).b.0 (line.row t k).s2.0)
                (sym made) step,
          ),
          (
            (
              ap (λ v. stands_on (route_segment net t) v (line.row t k).s.0) goes
                  ∙ number_is _ _ step.from,
              (λ c f g. ap (λ v. is_across (route_segment net t) (route_box net t) v c f g) goes),
            ),
            (has.0, (has.1, (has.2, tt))),
          ),
        );
        world = rerun (world_at net s) _ _ _ _ _ _
            (enter_stands (route_segment net) (route_box net) s.run t k _ _ _ step.from step.through step.to goes)
            (enter_across (route_segment net) (route_box net) s.run t k _ _ _ step.from step.through step.to goes)
            (enter_made (route_segment net) (route_box net) s.run t k _ _ _ step.from step.through step.to goes);
      }

  pub leave_moves : s.run t ≡ Across k → (line.row t k).s.0 ≢ (line.row t k).s2.0
      → IsMove net (world_at net s) (world_at net (record s { run = put s.run t (Clear (k + 1)) })) (moves.Leave (train t) (line.row t k).s)
  leave_moves goes apart =
      record {
        guarded = (
          (
            (line.row t k).b.0,
            (line.row t k).s2.0,
            ap (λ v. is_across (route_segment net t) (route_box net t) v (line.row t k).b.0 (line.row t k).s.0 (line.row t k).s2.0) goes
                ∙ and_from _ _ (and_from _ _ (number_is _ _ step.through) (number_is _ _ step.from)) (number_is _ _ step.to),
          ),
          tt,
        );
        world = rerun (world_at net s) _ _ _ _ _ _
            (leave_stands (route_segment net) (route_box net) s.run t k _ _ _ step.from step.through step.to apart goes)
            (leave_across (route_segment net) (route_box net) s.run t k _ _ _ step.from step.through step.to goes)
            (leave_made (route_segment net) (route_box net) s.run t k _ _ _ step.from step.through step.to goes);
      }

-- a train that goes stands where it stood
go_stands : (segments boxes : ℕ → ℕ → Option ℕ) (run : ℕ → RunWord) (t k : ℕ) → run t ≡ Clear k → (u r : ℕ)
    → stands_on (segments u) (put run t (Go k) u) r ≡ stands_on (segments u) (run u) r
go_stands segments boxes run t k is u r = grind (arith, nat_tests)

go_across : (segments boxes : ℕ → ℕ → Option ℕ) (run : ℕ → RunWord) (t k : ℕ) → run t ≡ Clear k → (u c f g : ℕ)
    → is_across (segments u) (boxes u) (put run t (Go k) u) c f g ≡ is_across (segments u) (boxes u) (run u) c f g
go_across segments boxes run t k is u c f g = grind (arith, nat_tests)

go_made : (run : ℕ → RunWord) (t k : ℕ) → run t ≡ Clear k → (u : ℕ) → steps_made (put run t (Go k) u) ≡ steps_made (run u)
go_made run t k is u = grind (arith, nat_tests)

pub go_stays : (net : NetworkPlan) (s : State) (t k : ℕ) → s.run t ≡ Clear k → world_at net (record s { run = put s.run t (Go k) }) ≡ world_at net s
go_stays net s t k is =
    rerun (world_at net s) _ _ _ _ _ _ (go_stands (route_segment net) (route_box net) s.run t k is) (go_across (route_segment net) (route_box net) s.run t k is)
    (go_made s.run t k is)

-- who holds a segment wherever it has an arm holds it at both ends
high_arm : (g : Segment) → (i : ℕ) × (arm_at g.high.at.0 g ≡ Some i)
high_arm g = of (g.low.at.0 == g.high.at.0) (g.high.at.0 == g.high.at.0) (eq-eqb g.high.at.0 g.high.at.0 refl)
  where
    of : (p q : Bool) → q ≡ true → (i : ℕ) × (cond p (Some g.low.arm.0) (cond q (Some g.high.arm.0) None) ≡ Some i)
    of true q h = (g.low.arm.0, refl)
    of false true h = (g.high.arm.0, refl)
    of false false h = absurd (false≢true h)

pub holds_both : (net : NetworkPlan) (w : World) (t s : ℕ) (g : Segment) → slice_get net.segments s ≡ Some g
    → ((c i : ℕ) → arm_of net s c ≡ Some i → w.holds t s c ≡ true) → holds_ends w net t s ≡ true
holds_both net w t s g there each =
    ap (λ o. option_map_or (λ (x : Segment). w.holds t s x.low.at.0 && w.holds t s x.high.at.0) o false) there
    ∙ and_from _ _ (each g.low.at.0 g.low.arm.0
    (ap (option_and_then (arm_at g.low.at.0)) there
    ∙ ap (λ c. cond c (Some g.low.arm.0) (cond (g.high.at.0 == g.low.at.0) (Some g.high.arm.0) None)) (eq-eqb g.low.at.0 g.low.at.0 refl)))
    (let high = high_arm g in each g.high.at.0 high.0 (ap (option_and_then (arm_at g.high.at.0)) there ∙ high.1))

-- a lock of a train by its arms is one by the segments at them
pub locked_segments : (segments : ℕ → Option ℕ) (w : LockWord) (t x y f g : ℕ) → segments x ≡ Some f → segments y ≡ Some g → is_locked_by w t x y ≡ true
    → locks segments w t f g ≡ true
locked_segments segments w t x y f g at_x at_y h = grind (arith, nat_tests)

-- a box stands at a side that connects a path once it is set for it
pub set_connects : (net : NetworkPlan) (b f g x y : ℕ) (side : Side) → arm_of net f b ≡ Some x → arm_of net g b ≡ Some y
    → arms_join (kind_of net b) x y side ≡ true → points_connect net b f g (standing (kind_of net b) side) ≡ true
set_connects net b f g x y side at_x at_y h = of (kind_of net b) side (λ d. connects_at net b f g x y d at_x at_y) h
  where
    of : (kind : Kind) (side : Side) → ((d : Side) → connects net b f g d ≡ arms_join kind x y d) → arms_join kind x y side ≡ true
        → points_connect net b f g (standing kind side) ≡ true
    of Buffer side is h = absurd (false≢true h)
    of Joint side is h = is Left ∙ h
    of Point Left is h = is Left ∙ h
    of Point Right is h = is Right ∙ h
    of Crossing side is h = is Left ∙ h
