-- Every move keeps the kept facts, they hold at the start, and a world that has them is safe.
use Rattle.std.proofs.Common.{◌≡◌, ℕ, ◌<◌, Bool, true, false, ◌&&◌, ◌==◌, subst, List, [], ◌∷◌, length, slice_get, Option, Some, None, zero, suc, refl, sym, ap, ◌∙◌, arith}
use Rattle.std.proofs.lemmas.Grind.{common_steps}
use Rattle.std.proofs.lemmas.Bool.Decides.{nat_tests}
use Rattle.std.proofs.lemmas.Bool.{and_parts, and_from, false≢true, eqb-true, cond_both}
use Rattle.std.specs.Option.{option_map_or, option_map}
use Rattle.std.proofs.lemmas.Option.{option_and_then_some}
use Rattle.rl_base.specs.declared.ids.SegId.{SegId}
use Rattle.rl_base.specs.declared.ids.BoxId.{BoxId}
use Rattle.rl_base.specs.declared.ids.TrainId.{TrainId}
use Rattle.rl_model.specs.declared.network.Train.{Train}
use Rattle.std.specs.List.{AllByRecursion}
use Rattle.rl_base.specs.declared.kind.Side.{Side}
use Rattle.rl_model.specs.declared.moves.Move.{Move}
use Rattle.rl_model.specs.declared.moves.Move.TheVariants.{Reserve, Release, Lock, Unlock, Throw, Settle, Enter, Leave}
use Rattle.rl_model.specs.declared.network.NetworkPlan.{NetworkPlan}
use Rattle.rl_model.specs.declared.network.Segment.{Segment}
use Rattle.rl_model.specs.Network.{IsNetwork, StartsOn}
use Rattle.rl_model.specs.declared.moves.Points.TheVariants as points
use Rattle.rl_model.specs.World.{World, start, starts_on, points_connect, points_at}
use Rattle.rl_model.specs.Moves.{guards, AllHold, after, holds_ends}
use Rattle.rl_model.specs.Safety.{IsKept, IsSafe, GuardedFrom, worlds_from, IsSafeRun, Guarded}

-- who holds a segment at both ends by one test holds it there by every wider test
ends_wider : (f g : ℕ → Bool) (o : Option Segment) → ((b : ℕ) → f b ≡ true → g b ≡ true)
    → option_map_or (λ (x : Segment). f x.low.at.0 && f x.high.at.0) o false ≡ true
    → option_map_or (λ (x : Segment). g x.low.at.0 && g x.high.at.0) o false ≡ true
ends_wider f g None wider h = h
ends_wider f g (Some x) wider h =
    let both = and_parts (f x.low.at.0) (f x.high.at.0) h in
    and_from _ _ (wider _ both.0) (wider _ both.1)

kept_reserve : (net : NetworkPlan) (w : World) (t : TrainId) (s : SegId) (b : BoxId) → IsKept net w → AllHold (guards net w (Reserve t s b))
    → IsKept net (after w (Reserve t s b))
kept_reserve net w t s b kept holds =
    record {
      one_holder = λ x u z c h k. let free = holds.1.0 in grind (arith, nat_tests, free, kept.one_holder x u z c);
      one_lock = kept.one_lock;
      held = λ x y here. ends_wider (w.holds x y) ((after w (Reserve t s b)).holds x y) (slice_get net.segments y) (λ c h. grind (arith, nat_tests))
          (kept.held x y here);
      has_lock = kept.has_lock;
      connected = kept.connected;
    }

kept_release : (net : NetworkPlan) (w : World) (t : TrainId) (s : SegId) (b : BoxId) → IsKept net w → AllHold (guards net w (Release t s b))
    → IsKept net (after w (Release t s b))
kept_release net w t s b kept holds =
    record {
      one_holder = λ x u z c h k. grind (arith, nat_tests, kept.one_holder x u z c);
      one_lock = kept.one_lock;
      held = λ x y here. ends_wider (w.holds x y) ((after w (Release t s b)).holds x y) (slice_get net.segments y) (λ c h. let off = holds.1.1.0 in
          grind (arith, nat_tests)) (kept.held x y here);
      has_lock = kept.has_lock;
      connected = kept.connected;
    }

kept_lock : (net : NetworkPlan) (w : World) (t : TrainId) (b : BoxId) (s : SegId) (s2 : SegId) → IsKept net w → AllHold (guards net w (Lock t b s s2))
    → IsKept net (after w (Lock t b s s2))
kept_lock net w t b s s2 kept holds =
    record {
      one_holder = kept.one_holder;
      one_lock = λ x u c f g f2 g2 h k. let free = holds.1.0 in (
        grind (arith, nat_tests, free, kept.one_lock x u c f g f2 g2),
        grind (arith, nat_tests, free, kept.one_lock x u c f g f2 g2),
        grind
            (arith, nat_tests, free, kept.one_lock x u c f g f2 g2),
      );
      held = kept.held;
      has_lock = λ x c f g h. grind (arith, nat_tests, kept.has_lock x c f g);
      connected = kept.connected;
    }

kept_unlock : (net : NetworkPlan) (w : World) (t : TrainId) (b : BoxId) → IsKept net w → AllHold (guards net w (Unlock t b)) → IsKept net (after w (Unlock t b))
kept_unlock net w t b kept holds =
    record {
      one_holder = kept.one_holder;
      one_lock = λ x u c f g f2 g2 h k. kept.one_lock x u c f g f2 g2 (and_parts _ _ h).0 (and_parts _ _ k).0;
      held = kept.held;
      has_lock = λ x c f g h. let mine = kept.has_lock x c f g h in let lock = holds.0.2 in let off = holds.1.0 f g in
          grind (arith, nat_tests, kept.one_lock x t.0 c f g holds.0.0 holds.0.1);
      connected = kept.connected;
    }

-- who is across a box has a path there that the points connect, and which is locked
kept_throw : (net : NetworkPlan) (w : World) (b : BoxId) → IsKept net w → AllHold (guards net w (Throw b)) → IsKept net (after w (Throw b))
kept_throw net w b kept holds =
    record {
      one_holder = kept.one_holder;
      one_lock = kept.one_lock;
      held = kept.held;
      has_lock = kept.has_lock;
      connected = λ x c f g h.
          cond_both (c == b.0) points.Moving (w.points c) (λ p. points_connect net c f g p ≡ true)
          (λ e.
          let same = eqb-true c b.0 e in
          let locked = subst (λ z. w.locked z x f g ≡ true) same (kept.has_lock x c f g h) in
          let connected = subst (λ z. points_connect net z f g (w.points z) ≡ true) same (kept.connected x c f g h) in
          absurd (false≢true (sym (holds.1.0 x f g locked) ∙ connected)))
          (λ e. kept.connected x c f g h);
    }

-- nobody is across a box whose points move
kept_settle : (net : NetworkPlan) (w : World) (b : BoxId) (side : Side) → IsKept net w → AllHold (guards net w (Settle b side))
    → IsKept net (after w (Settle b side))
kept_settle net w b side kept holds =
    record {
      one_holder = kept.one_holder;
      one_lock = kept.one_lock;
      held = kept.held;
      has_lock = kept.has_lock;
      connected = λ x c f g h.
          cond_both (c == b.0) (points_at side) (w.points c) (λ p. points_connect net c f g p ≡ true)
          (λ e.
          let same = eqb-true c b.0 e in
          let connected = subst (λ z. points_connect net z f g (w.points z) ≡ true) same (kept.connected x c f g h) in
          absurd (false≢true (subst (λ p. points_connect net b.0 f g p ≡ true) holds.0.1 connected)))
          (λ e. kept.connected x c f g h);
    }

kept_enter : (net : NetworkPlan) (w : World) (t : TrainId) (b : BoxId) (s : SegId) (s2 : SegId) → IsKept net w → AllHold (guards net w (Enter t b s s2))
    → IsKept net (after w (Enter t b s s2))
kept_enter net w t b s s2 kept holds =
    record {
      one_holder = kept.one_holder;
      one_lock = kept.one_lock;
      held = λ x y h. let ends = holds.1.1.0 in grind (arith, nat_tests, kept.held x y);
      has_lock = λ x c f g h. let lock = holds.1.1.1.0 in grind (arith, nat_tests, kept.has_lock x c f g);
      connected = λ x c f g h. let joined = holds.1.1.1.1.0 in grind (arith, nat_tests, kept.connected x c f g);
    }

kept_leave : (net : NetworkPlan) (w : World) (t : TrainId) (s : SegId) → IsKept net w → AllHold (guards net w (Leave t s)) → IsKept net (after w (Leave t s))
kept_leave net w t s kept holds =
    record {
      one_holder = kept.one_holder;
      one_lock = kept.one_lock;
      held = λ x y h. kept.held x y (and_parts _ _ h).0;
      has_lock = λ x c f g h. kept.has_lock x c f g (and_parts _ _ h).0;
      connected = λ x c f g h. kept.connected x c f g (and_parts _ _ h).0;
    }

-- each of the ten moves keeps the kept facts
pub kept_after : (net : NetworkPlan) (w : World) (m : Move) → IsKept net w → AllHold (guards net w m) → IsKept net (after w m)
kept_after net w (Reserve t s b) kept holds = kept_reserve net w t s b kept holds
kept_after net w (Release t s b) kept holds = kept_release net w t s b kept holds
kept_after net w (Lock t b s s2) kept holds = kept_lock net w t b s s2 kept holds
kept_after net w (Unlock t b) kept holds = kept_unlock net w t b kept holds
kept_after net w (Throw b) kept holds = kept_throw net w b kept holds
kept_after net w (Settle b side) kept holds = kept_settle net w b side kept holds
kept_after net w (Enter t b s s2) kept holds = kept_enter net w t b s s2 kept holds
kept_after net w (Leave t s) kept holds = kept_leave net w t s kept holds
kept_after net w _ kept holds = kept

pub safe_kept : (net : NetworkPlan) (w : World) → IsKept net w → IsSafe net w
safe_kept net w kept = grind (arith, common_steps)

-- who starts on a segment by the test starts on it
starts_by_test : (o : Option ℕ) (s : ℕ) → option_map_or (λ first. first == s) o false ≡ true → o ≡ Some s
starts_by_test None s h = absurd (false≢true h)
starts_by_test (Some first) s h = ap Some (eqb-true first s h)

-- the segment on which a train starts is there
start_in_range : (net : NetworkPlan) (t s : ℕ) → IsNetwork net → StartsOn net t s → s < length net.segments
start_in_range net t s network h =
    option_and_then_some (λ (r : Train). option_map (λ (x : SegId). x.0) (slice_get r.segments 0)) (slice_get net.trains t) s h
    (λ r there _. (network.trains t r there).segments 0 s h)

-- at the start a train holds the segment on which it starts at both ends
start_held : (net : NetworkPlan) (t s : ℕ) (g : Segment) → slice_get net.segments s ≡ Some g → starts_on net t s ≡ true → holds_ends (start net) net t s ≡ true
start_held net t s g there h = grind (arith, nat_tests)

-- a segment in range is there
segment_there : (xs : List Segment) (s : ℕ) → s < length xs → (g : Segment) × (slice_get xs s ≡ Some g)
segment_there [] s h = absurd (omega arith)
segment_there (x ∷ xs) zero h = (x, refl)
segment_there (x ∷ xs) (suc s) h = segment_there xs s (omega arith)

pub kept_start : (net : NetworkPlan) → IsNetwork net → IsKept net (start net)
kept_start net network =
    record {
      one_holder = λ t u s b h k.
          network.starts t u s (starts_by_test _ s (and_parts _ _ h).0) (starts_by_test _ s (and_parts _ _ k).0);
      one_lock = λ t u b f g f2 g2 h k. absurd (false≢true h);
      held = λ t s h.
          let there = segment_there net.segments s (start_in_range net t s network (starts_by_test _ s h)) in
          start_held net t s there.0 there.1 h;
      has_lock = λ t b f g h. absurd (false≢true h);
      connected = λ t b f g h. absurd (false≢true h);
    }

-- guarded moves from a world that has the kept facts leave such worlds alone
pub safe_from : (net : NetworkPlan) (w : World) (moves : List Move) → IsKept net w → GuardedFrom net w moves → AllByRecursion (IsSafe net) (worlds_from w moves)
safe_from net w [] kept guarded = (safe_kept net w kept, tt)
safe_from net w (m ∷ ms) kept guarded =
    (safe_kept net w kept, safe_from net (after w m) ms (kept_after net w m kept guarded.0) guarded.1)

pub safe_run : (net : NetworkPlan) (moves : List Move) → IsNetwork net → Guarded net moves → IsSafeRun net moves
safe_run net moves network guarded =
    record { guarded = guarded; safe = safe_from net (start net) moves (kept_start net network) guarded }
