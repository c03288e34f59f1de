-- The moves Lock, Unlock, Throw and Settle: their guards hold, and their changes are those of the lock words.
use Rattle.std.proofs.Common.{◌≡◌, ◌≢◌, ℕ, ◌==◌, Bool, true, false, cond, not, ◌&&◌, ◌||◌, Option, Some, refl, sym, ap, ◌∙◌, subst, arith}
use Rattle.std.specs.Prelude.{is_some, unwrap_or}
use Rattle.std.proofs.Math.Path.{fun_ext}
use Rattle.std.proofs.lemmas.Bool.{eq-eqb, and_parts, and_from, eqb-true, cond_both}
use Rattle.std.proofs.lemmas.Bool.Decides.{nat_tests}
use Rattle.std.proofs.lemmas.Option.{same_Some}
use Rattle.rl_base.specs.declared.kind.Kind.{Kind}
use Rattle.rl_base.specs.declared.kind.Kind.TheVariants.{Point}
use Rattle.rl_base.specs.declared.kind.Side.{Side}
use Rattle.rl_base.specs.declared.kind.Side.TheVariants.{Left, Right}
use Rattle.rl_base.specs.Kind.{arms_join, joining_side}
use Rattle.rl_tables.specs.Kept.{can_join}
use Rattle.rl_model.specs.declared.network.NetworkPlan.{NetworkPlan}
use Rattle.rl_model.specs.declared.moves.Points.{Points}
use Rattle.rl_model.specs.declared.moves.Points.TheVariants as points
use Rattle.rl_model.specs.declared.moves.Move.TheVariants as moves
use Rattle.rl_model.specs.Network.{kind_of, segment_at, arm_of, joined, connects, can_connect}
use Rattle.rl_model.specs.World.{World, points_at, points_connect}
use Rattle.rl_model.specs.Moves.{IsNotAcross}
use Rattle.rl_words.specs.declared.lock.LockWord.{LockWord}
use Rattle.rl_words.specs.declared.lock.LockWord.TheVariants.{Free, Asked, Moving, Moved, Locked}
use Rattle.rl_words.specs.declared.lock.Path.{Path}
use Rattle.rl_protocol.specs.Line.{Line, is_held_by, is_number}
use Rattle.rl_protocol.specs.State.{State, put}
use Rattle.rl_box.specs.Steps.{other_side}
use Rattle.rl_protocol.specs.Minds.{box}
use Rattle.rl_protocol.specs.StepMoves.{seg_at}
use Rattle.rl_protocol.specs.Worlds.{is_passage, locks, standing, moving, points_in, world_at}
use Rattle.rl_protocol.proofs.Places.{ArePlaced}
use Rattle.rl_protocol.proofs.Sides.{join_apart, has_side, one_side, stands_still}
use Rattle.rl_protocol.proofs.Reserving.{IsMove, held_at}

module _ (segments : ℕ → ℕ → Option ℕ) (lock : ℕ → LockWord) (b : ℕ) (p : Path) (sx sy : ℕ) (at_x : segments b p.x.0 ≡ Some sx)
    (at_y : segments b p.y.0 ≡ Some sy) where
  lock_one : (side : Side) → lock b ≡ Free side → (w : LockWord) → ((u f g : ℕ) → locks (segments b) w u f g ≡ is_passage (segments b) p u f g) → (c u f g : ℕ)
      → locks (segments c) (put lock b w c) u f g ≡ (locks (segments c) (lock c) u f g || (c == b && u == p.train.0 && f == sx && g == sy))
  lock_one side free w is c u f g = grind (arith, nat_tests, is u f g)

  unlock_one : (side : Side) → (c u f g : ℕ) → locks (segments c) (put lock b (Free side) c) u f g ≡ (locks (segments c) (lock c) u f g && not (c == b))
  unlock_one side c u f g = grind (arith, nat_tests)

same_lock : (segments : ℕ → ℕ → Option ℕ) (lock : ℕ → LockWord) (b : ℕ) (w : LockWord)
    → ((u f g : ℕ) → locks (segments b) w u f g ≡ locks (segments b) (lock b) u f g) → (c u f g : ℕ)
    → locks (segments c) (put lock b w c) u f g ≡ locks (segments c) (lock c) u f g
same_lock segments lock b w is c u f g = grind (arith, nat_tests, is u f g)

-- points are the same where the word of the one box says the same of them
same_points : (kinds : ℕ → Kind) (lock : ℕ → LockWord) (b : ℕ) (w : LockWord) → points_in (kinds b) w ≡ points_in (kinds b) (lock b) → (c : ℕ)
    → points_in (kinds c) (put lock b w c) ≡ points_in (kinds c) (lock c)
same_points kinds lock b w is c =
    cond_both (c == b) w (lock c) (λ v. points_in (kinds c) v ≡ points_in (kinds c) (lock c))
    (λ e. subst (λ z. points_in (kinds z) w ≡ points_in (kinds z) (lock z)) (sym (eqb-true c b e)) is) (λ e. refl)

-- and at the one box they are what the new word says
set_points : (kinds : ℕ → Kind) (lock : ℕ → LockWord) (b : ℕ) (w : LockWord) (p : Points) → points_in (kinds b) w ≡ p → (c : ℕ)
    → points_in (kinds c) (put lock b w c) ≡ cond (c == b) p (points_in (kinds c) (lock c))
set_points kinds lock b w p is c =
    elim (c == b) as (λ t. (c == b) ≡ t → points_in (kinds c) (cond t w (lock c)) ≡ cond t p (points_in (kinds c) (lock c))) [
      | true ↦ (λ e. subst (λ z. points_in (kinds z) w ≡ p) (sym (eqb-true c b e)) is)
      | false ↦ (λ e. refl)
    ] refl

-- worlds with the same locks and the same points
relocked : (w : World) (locked locked2 : ℕ → ℕ → ℕ → ℕ → Bool) (pts pts2 : ℕ → Points) → ((c u f g : ℕ) → locked c u f g ≡ locked2 c u f g)
    → ((c : ℕ) → pts c ≡ pts2 c) → ◌≡◌ {A = World} (record w { locked = locked; points = pts }) (record w { locked = locked2; points = pts2 })
relocked w locked locked2 pts pts2 l p =
    ap (λ k. record w { locked = k; points = pts }) (fun_ext (λ c. fun_ext (λ u. fun_ext (λ f. fun_ext (λ g. l c u f g)))))
    ∙ ap (λ k. record w { locked = locked2; points = k }) (fun_ext p)

-- points that have moved stay where the lock is set
pub moved_stays : (net : NetworkPlan) (s : State) (b : ℕ) (p : Path) → s.lock b ≡ Moved p
    → world_at net (record s { lock = put s.lock b (Locked p) }) ≡ world_at net s
moved_stays net s b p is =
    relocked (world_at net s) _ _ _ _
    (same_lock (segment_at net) s.lock b (Locked p) (λ u f g. sym (ap (λ v. locks (segment_at net b) v u f g) is)))
    (same_points (kind_of net) s.lock b (Locked p) (sym (ap (points_in (kind_of net b)) is)))

-- the two segments of a path, at arms of a box that can connect them
pub record IsPathAt (net : NetworkPlan) (line : Line) (b : ℕ) (p : Path) : Type 0 where
  pub x : segment_at net b p.x.0 ≡ Some (seg_at line b p.x).0
  pub y : segment_at net b p.y.0 ≡ Some (seg_at line b p.y).0
  pub joined : can_join (kind_of net b) p.x.0 p.y.0 ≡ true

-- what a box connects of two segments is what it connects of their arms
pub connects_at : (net : NetworkPlan) (b f g x y : ℕ) (side : Side) → arm_of net f b ≡ Some x → arm_of net g b ≡ Some y
    → connects net b f g side ≡ arms_join (kind_of net b) x y side
connects_at net b f g x y side at_x at_y = ap (λ o. joined (kind_of net b) side o (arm_of net g b)) at_x ∙ ap (λ o. joined (kind_of net b) side (Some x) o) at_y

-- points that stand at a side connect what the box connects there
at_side : (net : NetworkPlan) (b f g : ℕ) (side : Side) → points_connect net b f g (points_at side) ≡ connects net b f g side
at_side net b f g Left = refl
at_side net b f g Right = refl

module _ (net : NetworkPlan) (line : Line) (s : State) (b : ℕ) (p : Path) (are : ArePlaced net) (path : IsPathAt net line b p) where
  from_arm : arm_of net (seg_at line b p.x).0 b ≡ Some p.x.0
  from_arm = are.to_arm (seg_at line b p.x).0 b p.x.0 path.x

  to_arm : arm_of net (seg_at line b p.y).0 b ≡ Some p.y.0
  to_arm = are.to_arm (seg_at line b p.y).0 b p.y.0 path.y

  segments_apart : (seg_at line b p.x).0 ≢ (seg_at line b p.y).0
  segments_apart = λ e. join_apart (kind_of net b) p.x.0 p.y.0 path.joined (same_Some p.x.0 p.y.0 (sym from_arm ∙ ap (λ z. arm_of net z b) e ∙ to_arm))

  can_connect_at : can_connect net b (seg_at line b p.x).0 (seg_at line b p.y).0 ≡ true
  can_connect_at =
      ap (λ c. c || connects net b (seg_at line b p.x).0 (seg_at line b p.y).0 Right) (connects_at net b _ _ p.x.0 p.y.0 Left from_arm to_arm)
      ∙ ap (λ c. arms_join (kind_of net b) p.x.0 p.y.0 Left || c) (connects_at net b _ _ p.x.0 p.y.0 Right from_arm to_arm)
      ∙ path.joined

  pub lock_moves : (side : Side) (w : LockWord) → s.lock b ≡ Free side → is_held_by p.train.0 (s.resv b p.x.0) ≡ true
      → is_held_by p.train.0 (s.resv b p.y.0) ≡ true
      → ((u f g : ℕ) → locks (segment_at net b) w u f g ≡ is_passage (segment_at net b) p u f g) → points_in (kind_of net b) w ≡ standing (kind_of net b) side
      → IsMove net (world_at net s) (world_at net (record s { lock = put s.lock b w })) (moves.Lock p.train (box b) (seg_at line b p.x) (seg_at line b p.y))
  lock_moves side w free held_x held_y is stays =
      record {
        guarded = (
          (segments_apart, ap is_some from_arm, ap is_some to_arm),
          (
            (λ u f g. ap (λ v. locks (segment_at net b) v u f g) free),
            (
              (held_at net s p.train.0 _ b p.x.0 from_arm ∙ held_x, held_at net s p.train.0 _ b p.y.0 to_arm ∙ held_y),
              (can_connect_at, tt),
            ),
          ),
        );
        world = relocked (world_at net s) _ _ _ _
            (λ c u f g. lock_one (segment_at net) s.lock b p _ _ path.x path.y side free w is c u f g)
            (same_points (kind_of net) s.lock b w (stays ∙ ap (points_in (kind_of net b)) (sym free)));
      }

  own_path : is_passage (segment_at net b) p p.train.0 (seg_at line b p.x).0 (seg_at line b p.y).0 ≡ true
  own_path =
      and_from _ _ (and_from _ _ (eq-eqb p.train.0 p.train.0 refl)
      (ap (λ o. is_number o (seg_at line b p.x).0) path.x ∙ eq-eqb (seg_at line b p.x).0 (seg_at line b p.x).0 refl))
      (ap (λ o. is_number o (seg_at line b p.y).0) path.y ∙ eq-eqb (seg_at line b p.y).0 (seg_at line b p.y).0 refl)

  pub unlock_moves : (side : Side) → s.lock b ≡ Locked p → joining_side (kind_of net b) p.x.0 p.y.0 ≡ Some side
      → ((box : ℕ) → IsNotAcross (world_at net s) p.train.0 box)
      → IsMove net (world_at net s) (world_at net (record s { lock = put s.lock b (Free side) })) (moves.Unlock p.train (box b))
  unlock_moves side locked joins off =
      record {
        guarded = ((_, _, ap (λ v. locks (segment_at net b) v p.train.0 (seg_at line b p.x).0 (seg_at line b p.y).0) locked ∙ own_path), (off b, tt));
        world = relocked (world_at net s) _ _ _ _
            (λ c u f g. unlock_one (segment_at net) s.lock b p _ _ path.x path.y side c u f g)
            (same_points (kind_of net) s.lock b (Free side)
            (ap (λ o. standing (kind_of net b) (unwrap_or o Left)) (sym joins) ∙ ap (points_in (kind_of net b)) (sym locked)));
      }

  -- any path that is locked is this one
  locked_arms : (f g : ℕ) → (u : ℕ) → is_passage (segment_at net b) p u f g ≡ true → (arm_of net f b ≡ Some p.x.0) × (arm_of net g b ≡ Some p.y.0)
  locked_arms f g u h =
      let parts = and_parts _ _ h in
      let same_from : (seg_at line b p.x).0 ≡ f = eqb-true _ _ (sym (ap (λ o. is_number o f) path.x) ∙ (and_parts _ _ parts.0).1) in
      let same_to : (seg_at line b p.y).0 ≡ g = eqb-true _ _ (sym (ap (λ o. is_number o g) path.y) ∙ parts.1) in
      (subst (λ z. arm_of net z b ≡ Some p.x.0) same_from from_arm, subst (λ z. arm_of net z b ≡ Some p.y.0) same_to to_arm)

  locked_connects : (f g u : ℕ) (side : Side) → is_passage (segment_at net b) p u f g ≡ true
      → connects net b f g side ≡ arms_join (kind_of net b) p.x.0 p.y.0 side
  locked_connects f g u side h = let arms = locked_arms f g u h in connects_at net b f g p.x.0 p.y.0 side arms.0 arms.1

  pub throw_moves : s.lock b ≡ Asked p → kind_of net b ≡ Point
      → IsMove net (world_at net s) (world_at net (record s { lock = put s.lock b (Moving p) })) (moves.Throw (box b))
  throw_moves asked point =
      let side = has_side (kind_of net b) p.x.0 p.y.0 path.joined in
      let stands : (world_at net s).points b ≡ points_at (other_side side.0) =
      ap (points_in (kind_of net b)) asked ∙ ap (λ o. standing (kind_of net b) (other_side (unwrap_or o Left))) side.1
      ∙ ap (λ k. standing k (other_side side.0)) point in
      record {
        guarded = (
          (
            (_, _, _, ap (λ v. locks (segment_at net b) v p.train.0 (seg_at line b p.x).0 (seg_at line b p.y).0) asked ∙ own_path),
            (λ e. stands_still (other_side side.0) (sym stands ∙ e)),
          ),
          (
            (λ u f g h.
                ap (points_connect net b f g) stands ∙ at_side net b f g (other_side side.0)
                ∙ locked_connects f g u (other_side side.0) (sym (ap (λ v. locks (segment_at net b) v u f g) asked) ∙ h)
                ∙ ap (λ k. arms_join k p.x.0 p.y.0 (other_side side.0)) point
                ∙ one_side p.x.0 p.y.0 side.0 (sym (ap (λ k. arms_join k p.x.0 p.y.0 side.0) point) ∙ side.2)),
            tt,
          ),
        );
        world = relocked (world_at net s) _ _ _ _
            (same_lock (segment_at net) s.lock b (Moving p) (λ u f g. sym (ap (λ v. locks (segment_at net b) v u f g) asked)))
            (set_points (kind_of net) s.lock b (Moving p) points.Moving (ap moving point));
      }

  pub settle_moves : (side : Side) → s.lock b ≡ Moving p → kind_of net b ≡ Point → joining_side (kind_of net b) p.x.0 p.y.0 ≡ Some side
      → IsMove net (world_at net s) (world_at net (record s { lock = put s.lock b (Moved p) })) (moves.Settle (box b) side)
  settle_moves side moving_now point joins =
      let is = has_side (kind_of net b) p.x.0 p.y.0 path.joined in
      let same : is.0 ≡ side = same_Some is.0 side (sym is.1 ∙ joins) in
      record {
        guarded = (
          (
            (_, _, _, ap (λ v. locks (segment_at net b) v p.train.0 (seg_at line b p.x).0 (seg_at line b p.y).0) moving_now ∙ own_path),
            (ap (points_in (kind_of net b)) moving_now ∙ ap moving point),
          ),
          (
            (λ u f g h.
                locked_connects f g u side (sym (ap (λ v. locks (segment_at net b) v u f g) moving_now) ∙ h)
                ∙ subst (λ d. arms_join (kind_of net b) p.x.0 p.y.0 d ≡ true) same is.2),
            tt,
          ),
        );
        world = relocked (world_at net s) _ _ _ _
            (same_lock (segment_at net) s.lock b (Moved p) (λ u f g. sym (ap (λ v. locks (segment_at net b) v u f g) moving_now)))
            (set_points (kind_of net) s.lock b (Moved p) (points_at side)
            (ap (λ o. standing (kind_of net b) (unwrap_or o Left)) joins ∙ ap (λ k. standing k side) point));
      }
