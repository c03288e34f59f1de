-- Who is on a segment, who holds it and who has a lock: one train at most, read off the rows of a world.
use Rattle.std.proofs.Common.{◌≡◌, ◌≢◌, ◌==◌, ℕ, ◌<◌, true, false, ◌&&◌, ◌||◌, length, slice_get, Option, Some, None, inl, inr, refl, sym, ap, ◌∙◌, subst}
use Rattle.std.specs.Option.{option_map_or}
use Rattle.std.proofs.lemmas.Bool.{and_parts, or_cases, or_left, or_right, eqb-true, eq-eqb, false≢true, false_from_ne_true}
use Rattle.rl_base.specs.declared.ids.TrainId.{TrainId}
use Rattle.rl_base.specs.declared.ids.SegId.{SegId}
use Rattle.rl_base.specs.declared.ids.BoxId.{BoxId}
use Rattle.rl_model.specs.declared.moves.Move.TheVariants.{Enter}
use Rattle.rl_model.specs.declared.network.NetworkPlan.{NetworkPlan}
use Rattle.rl_model.specs.declared.network.Segment.{Segment}
use Rattle.rl_model.specs.Moves.{AllHold, guards, after, holds_ends}
use Rattle.rl_model.specs.Safety.{IsKept}
use Rattle.rl_model.specs.World.{World}
use Rattle.rl_domain.specs.declared.states.BoxState.{BoxState}
use Rattle.rl_domain.specs.declared.states.Passage.{Passage}
use Rattle.rl_domain.specs.declared.states.PathLock.{PathLock}
use Rattle.rl_domain.specs.declared.states.Standing.{Standing}
use Rattle.rl_domain.specs.States.{is_lock, stands_on, stands_across}
use Rattle.rl_domain.specs.Rows.{Rows, world_of, occupies_of, across_of, locked_of, Fits, IsLock}

by_segment : (net : NetworkPlan) (w : World) (t u s : ℕ) (o : Option Segment) → IsKept net w
    → option_map_or (λ (g : Segment). w.holds t s g.low.at.0 && w.holds t s g.high.at.0) o false ≡ true
    → option_map_or (λ (g : Segment). w.holds u s g.low.at.0 && w.holds u s g.high.at.0) o false ≡ true → t ≡ u
by_segment net w t u s None kept one two = absurd (false≢true one)
by_segment net w t u s (Some g) kept one two =
    kept.one_holder t u s g.low.at.0 (and_parts (w.holds t s g.low.at.0) (w.holds t s g.high.at.0) one).0
    (and_parts (w.holds u s g.low.at.0) (w.holds u s g.high.at.0) two).0

-- one train holds a segment at both ends, and one is on it
pub one_with_ends : (net : NetworkPlan) (w : World) (t u s : ℕ) → IsKept net w → holds_ends w net t s ≡ true → holds_ends w net u s ≡ true → t ≡ u
one_with_ends net w t u s kept one two = by_segment net w t u s (slice_get net.segments s) kept one two

pub one_occupant : (net : NetworkPlan) (w : World) (t u s : ℕ) → IsKept net w → w.occupies t s ≡ true → w.occupies u s ≡ true → t ≡ u
one_occupant net w t u s kept one two = one_with_ends net w t u s kept (kept.held t s one) (kept.held u s two)

-- a train that is across a box from a segment is on it
on_from : (o : Option Standing) (b s to : ℕ) → option_map_or (stands_across b s to) o false ≡ true → option_map_or (stands_on s) o false ≡ true
on_from None b s to across = absurd (false≢true across)
on_from (Some x) b s to across = by_passage x.across across
  where
    by_passage : (o : Option Passage) → option_map_or (λ (p : Passage). b == p.b.0 && s == x.on.0 && to == p.to.0) o false ≡ true
        → (s == x.on.0 || option_map_or (λ (p : Passage). s == p.to.0) x.across false) ≡ true
    by_passage None is = absurd (false≢true is)
    by_passage (Some p) is =
        or_left (s == x.on.0) _ (and_parts (b == p.b.0) (s == x.on.0) (and_parts (b == p.b.0 && s == x.on.0) (to == p.to.0) is).0).1

pub leaves_it : (rows : Rows) (t b s to : ℕ) → across_of rows t b s to ≡ true → occupies_of rows t s ≡ true
leaves_it rows t b s to across = on_from (slice_get rows.trains t) b s to across

-- a train that isn't across a box is on one segment
one_segment : (rows : Rows) (t s s2 : ℕ) (o : Option Standing) → slice_get rows.trains t ≡ o → ((b from to : ℕ) → across_of rows t b from to ≡ false)
    → option_map_or (stands_on s) o false ≡ true → option_map_or (stands_on s2) o false ≡ true → s ≡ s2
one_segment rows t s s2 None at off one two = absurd (false≢true one)
one_segment rows t s s2 (Some x) at off one two = by_passage x.across refl
  where
    tail : (y : ℕ) → x.across ≡ None → stands_on y x ≡ true → y ≡ x.on.0
    tail y none is = eqb-true y x.on.0 (no_head y (subst (λ (o : Option Passage).
        (y == x.on.0 || option_map_or (λ (p : Passage). y == p.to.0) o false) ≡ true) none is))
      where
        no_head : (z : ℕ) → (z == x.on.0 || false) ≡ true → (z == x.on.0) ≡ true
        no_head z is = elim (or_cases (z == x.on.0) false is) [ inl here ↦ here | inr off ↦ absurd (false≢true off) ]

    by_passage : (o : Option Passage) → x.across ≡ o → s ≡ s2
    by_passage None none = tail s none one ∙ sym (tail s2 none two)
    by_passage (Some p) some =
        let is_false : option_map_or (stands_across p.b.0 x.on.0 p.to.0) (slice_get rows.trains t) false ≡ false = off p.b.0 x.on.0 p.to.0 in
        let here = rw at at is_false in
        let there : (p.b.0 == p.b.0 && x.on.0 == x.on.0 && p.to.0 == p.to.0) ≡ false = rw some at here in
        absurd (false≢true (sym there ∙ self p.b.0 x.on.0 p.to.0))
      where
        self : (b on to : ℕ) → (b == b && on == on && to == to) ≡ true
        self b on to = rw (eq-eqb b b refl, eq-eqb on on refl, eq-eqb to to refl) refl

-- a train that is across a box leads from one segment to another
two_segments : (net : NetworkPlan) (rows : Rows) (t b s s2 : ℕ) (o : Option Standing) → Fits net rows → slice_get rows.trains t ≡ o
    → option_map_or (stands_across b s s2) o false ≡ true → s ≢ s2
two_segments net rows t b s s2 None fits at across = absurd (false≢true across)
two_segments net rows t b s s2 (Some x) fits at across = by_passage x.across refl across
  where
    by_passage : (o : Option Passage) → x.across ≡ o
        → option_map_or (λ (p : Passage). b == p.b.0 && s == x.on.0 && s2 == p.to.0) o false ≡ true → s ≢ s2
    by_passage None none is = absurd (false≢true is)
    by_passage (Some p) some is =
        let passage = (fits.standings t x at).passage p some in
        let both = and_parts (b == p.b.0 && s == x.on.0) (s2 == p.to.0) is in
        let from = eqb-true s x.on.0 (and_parts (b == p.b.0) (s == x.on.0) both.0).1 in
        let to = eqb-true s2 p.to.0 both.1 in
        λ same. passage.away (sym from ∙ same ∙ to)

-- nobody is on the segment that a train enters
pub entered_free : (net : NetworkPlan) (old new : Rows) (t : TrainId) (b : BoxId) (s s2 : SegId) → Fits net new → IsKept net (world_of net old)
    → AllHold (guards net (world_of net old) (Enter t b s s2)) → world_of net new ≡ after (world_of net old) (Enter t b s s2)
    → (u : ℕ) → occupies_of old u s2.0 ≡ false
entered_free net old new t b s s2 fits kept hold changed u =
    false_from_ne_true (occupies_of old u s2.0) (λ on.
    let same : u ≡ t.0 = one_with_ends net (world_of net old) u t.0 s2.0 kept (kept.held u s2.0 on) hold.1.1.0 in
    let here : occupies_of old t.0 s2.0 ≡ true = subst (λ (k : ℕ). occupies_of old k s2.0 ≡ true) same on in
    let across : across_of new t.0 b.0 s.0 s2.0 ≡ true =
    ap (λ (w : World). w.across t.0 b.0 s.0 s2.0) changed
    ∙ or_right (across_of old t.0 b.0 s.0 s2.0) (t.0 == t.0 && b.0 == b.0 && s.0 == s.0 && s2.0 == s2.0) (self t.0 b.0 s.0 s2.0) in
    two_segments net new t.0 b.0 s.0 s2.0 (slice_get new.trains t.0) fits refl across
    (one_segment old t.0 s.0 s2.0 (slice_get old.trains t.0) refl hold.1.0.1 hold.1.0.0 here))
  where
    self : (x y z v : ℕ) → (x == x && y == y && z == z && v == v) ≡ true
    self x y z v = rw (eq-eqb x x refl, eq-eqb y y refl, eq-eqb z z refl, eq-eqb v v refl) refl

-- a lock is of a train and two segments of the network
pub record IsLockOf (net : NetworkPlan) (t from to : ℕ) : Type 0 where
  pub train : t < length net.trains
  pub from_there : from < length net.segments
  pub to_there : to < length net.segments

by_lock : (net : NetworkPlan) (t from to : ℕ) (o : Option PathLock) → ((l : PathLock) → o ≡ Some l → IsLock net l) → is_lock t from to o ≡ true
    → IsLockOf net t from to
by_lock net t from to None of is = absurd (false≢true is)
by_lock net t from to (Some l) of is =
    let lock = of l refl in
    let both = and_parts (t == l.t.0 && from == l.s.0) (to == l.s2.0) is in
    let first = and_parts (t == l.t.0) (from == l.s.0) both.0 in
    record {
      train = subst (λ (k : ℕ). k < length net.trains) (sym (eqb-true t l.t.0 first.0)) lock.train;
      from_there = subst (λ (k : ℕ). k < length net.segments) (sym (eqb-true from l.s.0 first.1)) lock.from;
      to_there = subst (λ (k : ℕ). k < length net.segments) (sym (eqb-true to l.s2.0 both.1)) lock.to;
    }

by_state : (net : NetworkPlan) (rows : Rows) (b t from to : ℕ) (o : Option BoxState) → Fits net rows → slice_get rows.boxes b ≡ o
    → is_lock t from to (option_map_or (λ (x : BoxState). x.lock) o None) ≡ true → IsLockOf net t from to
by_state net rows b t from to None fits at is = absurd (false≢true is)
by_state net rows b t from to (Some x) fits at is = by_lock net t from to x.lock (fits.states b x at).lock is

pub lock_there : (net : NetworkPlan) (rows : Rows) (b t from to : ℕ) → Fits net rows → locked_of rows b t from to ≡ true → IsLockOf net t from to
lock_there net rows b t from to fits is = by_state net rows b t from to (slice_get rows.boxes b) fits refl is
