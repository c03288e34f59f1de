-- A move's change of the rows is its change of the world.
use Rattle.std.proofs.Common.{◌≡◌, ℕ, ◌==◌, Bool, true, false, not, ◌&&◌, ◌||◌, Option, Some, None, refl, sym, ap, ◌⊎◌, inl, inr}
use Rattle.std.proofs.lemmas.Bool.{cases_eq, eq-eqb, eqb-true, ne_eqb, and_left, and_right, false≢true}
use Rattle.rl_base.specs.declared.ids.TrainId.{TrainId}
use Rattle.rl_base.specs.declared.ids.SegId.{SegId}
use Rattle.rl_base.specs.declared.ids.BoxId.{BoxId}
use Rattle.rl_model.specs.declared.moves.Move.TheVariants.{Reserve, Release, Lock}
use Rattle.rl_model.specs.declared.network.NetworkPlan.{NetworkPlan}
use Rattle.rl_model.specs.Moves.{AllHold, guards, after}
use Rattle.rl_domain.specs.declared.states.PathLock.{PathLock}
use Rattle.rl_domain.specs.States.{is_train, is_lock}
use Rattle.rl_domain.specs.Rows.{Rows, world_of, holder_of, lock_of}
use Rattle.rl_domain.specs.Changes.{ChangesHolder, ChangesLock}
use Rattle.rl_domain.proofs.Meanings.{nobody, no_lock}
use Rattle.rl_domain.proofs.Worlds.{same_world}

-- a place that two numbers name, and every other
here_or_not : (y s z b : ℕ) → ((y ≡ s) × (z ≡ b)) ⊎ ((y ≡ s) × (z ≡ b) → ⊥)
here_or_not y s z b =
    elim (cases_eq y s) [
      | inl same ↦ elim (cases_eq z b) [ inl too ↦ inl (same, too) | inr other ↦ inr (λ both. other both.1) ]
      | inr other ↦ inr (λ both. other both.0)
    ]

at_place : (p : Bool) (s b : ℕ) → (p && s == s && b == b) ≡ p
at_place true s b = rw (eq-eqb s s refl, eq-eqb b b refl) refl
at_place false s b = refl

off_place : (p : Bool) (y s z b : ℕ) → ((y ≡ s) × (z ≡ b) → ⊥) → (p && y == s && z == b) ≡ false
off_place p y s z b other =
    elim (cases_eq y s) [
      | inl same ↦ and_right (p && y == s) (z == b) (ne_eqb z b (λ too. other (same, too)))
      | inr apart ↦ and_left (p && y == s) (z == b) (and_right p (y == s) (ne_eqb y s apart))
    ]

pub or_false : (p : Bool) → p ≡ (p || false)
or_false true = refl
or_false false = refl

pub and_true : (p : Bool) → p ≡ (p && true)
and_true true = refl
and_true false = refl

-- the holders after a reservation and after a release
reserved : (net : NetworkPlan) (old new : Rows) (t : TrainId) (s b x y z : ℕ) → ChangesHolder net old new s b (Some t) → holder_of net old s b ≡ None
    → is_train x (holder_of net new y z) ≡ (is_train x (holder_of net old y z) || (x == t.0 && y == s && z == b))
reserved net old new t s b x y z changes free =
    elim (here_or_not y s z b) [
      | inl here ↦ rw (here.0, here.1, changes.changed, free) (sym (at_place (x == t.0) s b))
      | inr other ↦ rw (changes.others y z other, off_place (x == t.0) y s z b other) (or_false _)
    ]

pub reserve_world : (net : NetworkPlan) (old new : Rows) (t : TrainId) (s : SegId) (b : BoxId) → ChangesHolder net old new s.0 b.0 (Some t)
    → AllHold (guards net (world_of net old) (Reserve t s b)) → world_of net new ≡ after (world_of net old) (Reserve t s b)
reserve_world net old new t s b changes hold =
    same_world (world_of net new) (after (world_of net old) (Reserve t s b))
    (λ x y. rw changes.trains refl)
    (λ x z from to. rw changes.trains refl)
    (λ x y z. reserved net old new t s.0 b.0 x y z changes (nobody _ hold.1.0))
    (λ z x from to. ap (is_lock x from to) (changes.locks z))
    (λ z. changes.points z)
    (λ x. rw changes.trains refl)

gone : (o : Option TrainId) (t x s b : ℕ) → is_train t o ≡ true → false ≡ (is_train x o && not (x == t && s == s && b == b))
gone None t x s b held = absurd (false≢true held)
gone (Some u) t x s b held =
    let same = eqb-true t u.0 held in
    rw (at_place (x == t) s b, same) (elim (x == u.0) as (λ p. false ≡ (p && not p)) [ true ↦ refl | false ↦ refl ])

released : (net : NetworkPlan) (old new : Rows) (t s b x y z : ℕ) → ChangesHolder net old new s b None → is_train t (holder_of net old s b) ≡ true
    → is_train x (holder_of net new y z) ≡ (is_train x (holder_of net old y z) && not (x == t && y == s && z == b))
released net old new t s b x y z changes held =
    elim (here_or_not y s z b) [
      | inl here ↦ rw (here.0, here.1, changes.changed) (gone (holder_of net old s b) t x s b held)
      | inr other ↦ rw (changes.others y z other, off_place (x == t) y s z b other) (and_true _)
    ]

pub release_world : (net : NetworkPlan) (old new : Rows) (t : TrainId) (s : SegId) (b : BoxId) → ChangesHolder net old new s.0 b.0 None
    → AllHold (guards net (world_of net old) (Release t s b)) → world_of net new ≡ after (world_of net old) (Release t s b)
release_world net old new t s b changes hold =
    same_world (world_of net new) (after (world_of net old) (Release t s b))
    (λ x y. rw changes.trains refl)
    (λ x z from to. rw changes.trains refl)
    (λ x y z. released net old new t.0 s.0 b.0 x y z changes hold.1.0)
    (λ z x from to. ap (is_lock x from to) (changes.locks z))
    (λ z. changes.points z)
    (λ x. rw changes.trains refl)

-- the locks after a lock
locks : (old new : Rows) (b y u f g : ℕ) (l : PathLock) → ChangesLock old new b (Some l) → lock_of old b ≡ None
    → is_lock u f g (lock_of new y) ≡ (is_lock u f g (lock_of old y) || (y == b && u == l.t.0 && f == l.s.0 && g == l.s2.0))
locks old new b y u f g l changes none =
    elim (cases_eq y b) [
      | inl here ↦ rw (here, changes.changed, none, eq-eqb b b refl) refl
      | inr other ↦ rw (changes.others y other, ne_eqb y b other) (or_false _)
    ]

pub lock_world : (net : NetworkPlan) (old new : Rows) (b : BoxId) (l : PathLock) → ChangesLock old new b.0 (Some l)
    → AllHold (guards net (world_of net old) (Lock l.t b l.s l.s2)) → world_of net new ≡ after (world_of net old) (Lock l.t b l.s l.s2)
lock_world net old new b l changes hold =
    same_world (world_of net new) (after (world_of net old) (Lock l.t b l.s l.s2))
    (λ x y. rw changes.trains refl)
    (λ x z from to. rw changes.trains refl)
    (λ x y z. ap (is_train x) (changes.holders net y z))
    (λ z x from to. locks old new b.0 z x from to l changes (no_lock _ hold.1.0))
    (λ z. changes.points z)
    (λ x. rw changes.trains refl)
