-- What each move changes of the counts of a world.
use Rattle.std.proofs.Common.{◌≡◌, ◌==◌, ℕ, ◌+◌, ◌<◌, Bool, true, false, not, ◌&&◌, ◌||◌, length, Option, is_some, inl, inr, refl, sym, ap, arith}
use Rattle.std.proofs.lemmas.Bool.{and_left, and_right, or_right, eq-eqb, ne_eqb, cases_eq, not_from_true}
use Rattle.rl_base.specs.declared.ids.TrainId.{TrainId}
use Rattle.rl_base.specs.declared.ids.SegId.{SegId}
use Rattle.rl_base.specs.declared.ids.BoxId.{BoxId}
use Rattle.rl_model.specs.declared.moves.Move.{Move}
use Rattle.rl_model.specs.declared.moves.Move.TheVariants.{Reserve, Release, Lock, Unlock, Throw, Settle, Enter, Leave, Refuse, Bar}
use Rattle.rl_model.specs.declared.network.NetworkPlan.{NetworkPlan}
use Rattle.rl_model.specs.Moves.{AllHold, guards, after, IsMoveOf}
use Rattle.rl_model.specs.Safety.{IsKept}
use Rattle.rl_model.specs.World.{World}
use Rattle.rl_domain.specs.Rows.{Rows, world_of, Fits}
use Rattle.rl_board.specs.Below.{some_below, one_if}
use Rattle.rl_board.specs.Boards.{occupant, holder, has_lock, occupied_in, reserved_in, locked_in}
use Rattle.rl_board.specs.Changes.{entered, left_behind, taken, given_back, locks, unlocks}
use Rattle.rl_board.proofs.Sums.{first_some, first_same, some_none, sum_changed, pairs_changed}
use Rattle.rl_board.proofs.Standing.{one_occupant, leaves_it, entered_free, lock_there}

-- the counts of world w, and those of world v after the move
pub record IsCounted (net : NetworkPlan) (m : Move) (w v : World) : Type 0 where
  pub occupied : occupied_in net v + left_behind m ≡ occupied_in net w + entered m
  pub reserved : reserved_in net v + given_back m ≡ reserved_in net w + taken m
  pub locked : locked_in net v + unlocks m ≡ locked_in net w + locks m

or_false : (p a : Bool) → a ≡ false → p ≡ (p || a)
or_false true a off = refl
or_false false a off = sym off

and_true : (p a : Bool) → a ≡ false → p ≡ (p && not a)
and_true true a off = ap not (sym off)
and_true false a off = refl

off_place : (p : Bool) (y s z b : ℕ) → ((y ≡ s) × (z ≡ b) → ⊥) → (p && y == s && z == b) ≡ false
off_place p y s z b other =
    elim (cases_eq y s) [
      | inl same ↦ and_right (p && y == s) (z == b) (ne_eqb z b (λ too. other (same, too)))
      | inr apart ↦ and_left (p && y == s) (z == b) (and_right p (y == s) (ne_eqb y s apart))
    ]

off_segment : (p : Bool) (y s : ℕ) → (y ≡ s → ⊥) → (p && y == s) ≡ false
off_segment p y s other = and_right p (y == s) (ne_eqb y s other)

at_place : (t s b : ℕ) → (t == t && s == s && b == b) ≡ true
at_place t s b = rw (eq-eqb t t refl, eq-eqb s s refl, eq-eqb b b refl) refl

-- a segment at a box was free, and a train holds it
reserved_more : (net : NetworkPlan) (w : World) (t : TrainId) (s : SegId) (b : BoxId) → IsMoveOf net (Reserve t s b)
    → AllHold (guards net w (Reserve t s b)) → IsCounted net (Reserve t s b) w (after w (Reserve t s b))
reserved_more net w t s b of hold =
    let v = after w (Reserve t s b) in
    let change = pairs_changed (λ y z. is_some (holder net w y z)) (λ y z. is_some (holder net v y z)) (length net.segments) (length net.boxes) s.0 b.0 of.1 of.2
    (λ y z other. ap (λ (o : Option ℕ). is_some o)
    (first_same (λ x. w.holds x y z) (λ x. v.holds x y z) (length net.trains)
    (λ x. or_false (w.holds x y z) (x == t.0 && y == s.0 && z == b.0) (off_place (x == t.0) y s.0 z b.0 other)))) in
    let was : is_some (holder net w s.0 b.0) ≡ false = some_none (λ x. w.holds x s.0 b.0) (length net.trains) hold.1.0 in
    let is : is_some (holder net v s.0 b.0) ≡ true = first_some (λ x. v.holds x s.0 b.0) (length net.trains) t.0 of.0
    (or_right (w.holds t.0 s.0 b.0) (t.0 == t.0 && s.0 == s.0 && b.0 == b.0) (at_place t.0 s.0 b.0)) in
    let one = ap one_if is in
    let none = ap one_if was in
    record { occupied = refl; reserved = omega arith; locked = refl }

gone : (p : Bool) (x t s b : ℕ) → (p ≡ true → x ≡ t) → (p && not (x == t && s == s && b == b)) ≡ false
gone true x t s b only = not_from_true (x == t && s == s && b == b)
    (rw (eq-eqb x t (only refl), eq-eqb s s refl, eq-eqb b b refl) refl)
gone false x t s b only = refl

-- the train alone held the segment at the box
reserved_less : (net : NetworkPlan) (w : World) (t : TrainId) (s : SegId) (b : BoxId) → IsKept net w → IsMoveOf net (Release t s b)
    → AllHold (guards net w (Release t s b)) → IsCounted net (Release t s b) w (after w (Release t s b))
reserved_less net w t s b kept of hold =
    let v = after w (Release t s b) in
    let change = pairs_changed (λ y z. is_some (holder net w y z)) (λ y z. is_some (holder net v y z)) (length net.segments) (length net.boxes) s.0 b.0 of.1 of.2
    (λ y z other. ap (λ (o : Option ℕ). is_some o)
    (first_same (λ x. w.holds x y z) (λ x. v.holds x y z) (length net.trains)
    (λ x. and_true (w.holds x y z) (x == t.0 && y == s.0 && z == b.0) (off_place (x == t.0) y s.0 z b.0 other)))) in
    let was : is_some (holder net w s.0 b.0) ≡ true = first_some (λ x. w.holds x s.0 b.0) (length net.trains) t.0 of.0 hold.1.0 in
    let is : is_some (holder net v s.0 b.0) ≡ false = some_none (λ x. v.holds x s.0 b.0) (length net.trains)
    (λ x. gone (w.holds x s.0 b.0) x t.0 s.0 b.0 (λ held. kept.one_holder x t.0 s.0 b.0 held hold.1.0)) in
    let none = ap one_if is in
    let one = ap one_if was in
    record { occupied = refl; reserved = omega arith; locked = refl }

-- the tests of a lock at one box
same_lock : (net : NetworkPlan) (w v : World) (b : ℕ) → ((t from to : ℕ) → w.locked b t from to ≡ v.locked b t from to) → has_lock net w b ≡ has_lock net v b
same_lock net w v b same =
    λ i. some_below (λ t. some_below (λ from. some_below (λ to. same t from to i) (length net.segments)) (length net.segments)) (length net.trains)

pub no_lock : (net : NetworkPlan) (w : World) (b : ℕ) → ((t from to : ℕ) → w.locked b t from to ≡ false) → has_lock net w b ≡ false
no_lock net w b none =
    some_none (λ t. some_below (λ from. some_below (λ to. w.locked b t from to) (length net.segments)) (length net.segments)) (length net.trains)
    (λ t. some_none (λ from. some_below (λ to. w.locked b t from to) (length net.segments)) (length net.segments)
    (λ from. some_none (λ to. w.locked b t from to) (length net.segments) (λ to. none t from to)))

a_lock : (net : NetworkPlan) (w : World) (b t from to : ℕ) → t < length net.trains → from < length net.segments → to < length net.segments
    → w.locked b t from to ≡ true → has_lock net w b ≡ true
a_lock net w b t from to train first second is =
    first_some (λ x. some_below (λ f. some_below (λ g. w.locked b x f g) (length net.segments)) (length net.segments)) (length net.trains) t train
    (first_some (λ f. some_below (λ g. w.locked b t f g) (length net.segments)) (length net.segments) from first
    (first_some (λ g. w.locked b t from g) (length net.segments) to second is))

off_box : (x b : ℕ) (p q r : Bool) → (x ≡ b → ⊥) → (x == b && p && q && r) ≡ false
off_box x b p q r apart = rw (ne_eqb x b apart) refl

at_lock : (b t s s2 : ℕ) → (b == b && t == t && s == s && s2 == s2) ≡ true
at_lock b t s s2 = rw (eq-eqb b b refl, eq-eqb t t refl, eq-eqb s s refl, eq-eqb s2 s2 refl) refl

locked_more : (net : NetworkPlan) (w : World) (t : TrainId) (b : BoxId) (s s2 : SegId) → IsMoveOf net (Lock t b s s2)
    → AllHold (guards net w (Lock t b s s2)) → IsCounted net (Lock t b s s2) w (after w (Lock t b s s2))
locked_more net w t b s s2 of hold =
    let v = after w (Lock t b s s2) in
    let change = sum_changed (λ x. one_if (has_lock net w x)) (λ x. one_if (has_lock net v x)) (length net.boxes) b.0 of.1
    (λ x apart. ap one_if (same_lock net w v x (λ y f g. or_false (w.locked x y f g) (x == b.0 && y == t.0 && f == s.0 && g == s2.0)
    (off_box x b.0 (y == t.0) (f == s.0) (g == s2.0) apart)))) in
    let none = ap one_if (no_lock net w b.0 hold.1.0) in
    let one = ap one_if (a_lock net v b.0 t.0 s.0 s2.0 of.0 of.2 of.3
    (or_right (w.locked b.0 t.0 s.0 s2.0) (b.0 == b.0 && t.0 == t.0 && s.0 == s.0 && s2.0 == s2.0) (at_lock b.0 t.0 s.0 s2.0))) in
    record { occupied = refl; reserved = refl; locked = omega arith }

locked_less : (net : NetworkPlan) (rows : Rows) (t : TrainId) (b : BoxId) → Fits net rows → IsMoveOf net (Unlock t b)
    → AllHold (guards net (world_of net rows) (Unlock t b)) → IsCounted net (Unlock t b) (world_of net rows) (after (world_of net rows) (Unlock t b))
locked_less net rows t b fits of hold =
    let w = world_of net rows in
    let v = after w (Unlock t b) in
    let lock = hold.0 in
    let there = lock_there net rows b.0 t.0 lock.0 lock.1 fits lock.2 in
    let change = sum_changed (λ x. one_if (has_lock net w x)) (λ x. one_if (has_lock net v x)) (length net.boxes) b.0 of.1
    (λ x apart. ap one_if (same_lock net w v x (λ y f g. and_true (w.locked x y f g) (x == b.0) (ne_eqb x b.0 apart)))) in
    let one = ap one_if (a_lock net w b.0 t.0 lock.0 lock.1 there.train there.from_there there.to_there lock.2) in
    let none = ap one_if (no_lock net v b.0 (λ y f g. and_right (w.locked b.0 y f g) (not (b.0 == b.0)) (not_from_true (b.0 == b.0) (eq-eqb b.0 b.0 refl)))) in
    record { occupied = refl; reserved = refl; locked = omega arith }

occupied_more : (net : NetworkPlan) (w : World) (t : TrainId) (b : BoxId) (s s2 : SegId) → IsMoveOf net (Enter t b s s2)
    → ((u : ℕ) → w.occupies u s2.0 ≡ false) → IsCounted net (Enter t b s s2) w (after w (Enter t b s s2))
occupied_more net w t b s s2 of free =
    let v = after w (Enter t b s s2) in
    let change = sum_changed (λ y. one_if (is_some (occupant net w y))) (λ y. one_if (is_some (occupant net v y))) (length net.segments) s2.0 of.3
    (λ y apart. ap (λ (o : Option ℕ). one_if (is_some o))
    (first_same (λ x. w.occupies x y) (λ x. v.occupies x y) (length net.trains)
    (λ x. or_false (w.occupies x y) (x == t.0 && y == s2.0) (off_segment (x == t.0) y s2.0 apart)))) in
    let none = ap one_if (some_none (λ x. w.occupies x s2.0) (length net.trains) free) in
    let one = ap one_if (first_some (λ x. v.occupies x s2.0) (length net.trains) t.0 of.0
    (or_right (w.occupies t.0 s2.0) (t.0 == t.0 && s2.0 == s2.0) (both t.0 s2.0))) in
    record { occupied = omega arith; reserved = refl; locked = refl }
  where
    both : (x y : ℕ) → (x == x && y == y) ≡ true
    both x y = rw (eq-eqb x x refl, eq-eqb y y refl) refl

left : (p : Bool) (x t s : ℕ) → (p ≡ true → x ≡ t) → (p && not (x == t && s == s)) ≡ false
left true x t s only = not_from_true (x == t && s == s) (rw (eq-eqb x t (only refl), eq-eqb s s refl) refl)
left false x t s only = refl

occupied_less : (net : NetworkPlan) (w : World) (t : TrainId) (s : SegId) → IsKept net w → IsMoveOf net (Leave t s) → w.occupies t.0 s.0 ≡ true
    → IsCounted net (Leave t s) w (after w (Leave t s))
occupied_less net w t s kept of on =
    let v = after w (Leave t s) in
    let change = sum_changed (λ y. one_if (is_some (occupant net w y))) (λ y. one_if (is_some (occupant net v y))) (length net.segments) s.0 of.1
    (λ y apart. ap (λ (o : Option ℕ). one_if (is_some o))
    (first_same (λ x. w.occupies x y) (λ x. v.occupies x y) (length net.trains)
    (λ x. and_true (w.occupies x y) (x == t.0 && y == s.0) (off_segment (x == t.0) y s.0 apart)))) in
    let one = ap one_if (first_some (λ x. w.occupies x s.0) (length net.trains) t.0 of.0 on) in
    let none = ap one_if (some_none (λ x. v.occupies x s.0) (length net.trains)
    (λ x. left (w.occupies x s.0) x t.0 s.0 (λ is. one_occupant net w x t.0 s.0 kept is on))) in
    record { occupied = omega arith; reserved = refl; locked = refl }

-- each move changes the counts as it says
pub move_counted : (net : NetworkPlan) (old new : Rows) (m : Move) → Fits net old → Fits net new → IsKept net (world_of net old) → IsMoveOf net m
    → AllHold (guards net (world_of net old) m) → world_of net new ≡ after (world_of net old) m
    → IsCounted net m (world_of net old) (after (world_of net old) m)
move_counted net old new (Reserve t s b) fits fits2 kept of hold changed = reserved_more net (world_of net old) t s b of hold
move_counted net old new (Release t s b) fits fits2 kept of hold changed = reserved_less net (world_of net old) t s b kept of hold
move_counted net old new (Lock t b s s2) fits fits2 kept of hold changed = locked_more net (world_of net old) t b s s2 of hold
move_counted net old new (Unlock t b) fits fits2 kept of hold changed = locked_less net old t b fits of hold
move_counted net old new (Throw b) fits fits2 kept of hold changed = record { occupied = refl; reserved = refl; locked = refl }
move_counted net old new (Settle b side) fits fits2 kept of hold changed = record { occupied = refl; reserved = refl; locked = refl }
move_counted net old new (Enter t b s s2) fits fits2 kept of hold changed =
    occupied_more net (world_of net old) t b s s2 of (entered_free net old new t b s s2 fits2 kept hold changed)
move_counted net old new (Leave t s) fits fits2 kept of hold changed =
    let across = hold.0 in
    occupied_less net (world_of net old) t s kept of (leaves_it old t.0 across.0 s.0 across.1 across.2)
move_counted net old new (Refuse t s b u) fits fits2 kept of hold changed = record { occupied = refl; reserved = refl; locked = refl }
move_counted net old new (Bar t b u) fits fits2 kept of hold changed = record { occupied = refl; reserved = refl; locked = refl }
