-- What a search for the first broken place answers, built from its parts.
use Rattle.std.proofs.Common.{◌≡◌, ℕ, zero, suc, ◌<◌, ◌≤◌, Bool, true, false, cond, Option, Some, None, ◌⊎◌, inl, inr, ⊎_elim, refl, sym, ap, ◌∙◌, subst, subst₂, arith}
use Rattle.std.proofs.lemmas.Bool.{both_ways, false_from_ne_true, cases_lt}
use Rattle.std.specs.Option.{option_or}
use Rattle.rl_base.specs.declared.place.Place.{Place}
use Rattle.rl_base.specs.Place.{IsNoLater}
use Rattle.rl_base.proofs.PlaceOrder.{IsNoLater-same}
use Rattle.rl_drafts.specs.Search.{first_below}

-- p is the first of these places that passes the test
pub record IsFirstPlace (test : Place → Bool) (Among : Place → Type 0) (p : Place) : Type 0 where
  pub broken : test p ≡ true
  pub inside : Among p
  pub least : (q : Place) → Among q → test q ≡ true → IsNoLater p q

-- o is the first of these places that passes the test, or none of them does
abbrev pub Finds : (Place → Bool) → (Place → Type 0) → Option Place → Type 0
Finds test Among None = (q : Place) → Among q → test q ≡ false
Finds test Among (Some p) = IsFirstPlace test Among p

-- a search at one place
pub Finds-one : (test : Place → Bool) (p : Place) → Finds test (λ q. q ≡ p) (cond (test p) (Some p) None)
Finds-one test p = at (test p) refl
  where
    at : (t : Bool) → test p ≡ t → Finds test (λ q. q ≡ p) (cond t (Some p) None)
    at true e = record { broken = e; inside = refl; least = λ q h x. subst (λ (w : Place). IsNoLater p w) (sym h) (IsNoLater-same p) }
    at false e = λ q h. ap test h ∙ e

-- a search at these places and then at those, which come later
pub Finds-or : (test : Place → Bool) (A B : Place → Type 0) (o u : Option Place) → Finds test A o → Finds test B u → ((p q : Place) → A p → B q → IsNoLater p q)
    → Finds test (λ q. A q ⊎ B q) (option_or o u)
Finds-or test A B None None a b before = λ q h. ⊎_elim (a q) (b q) h
Finds-or test A B None (Some p) a b before =
    record { broken = b.broken; inside = inr b.inside; least = λ q h e. ⊎_elim (λ x. absurd (both_ways (test q) (a q x) e)) (λ x. b.least q x e) h }
Finds-or test A B (Some p) u a b before =
    record { broken = a.broken; inside = inl a.inside; least = λ q h e. ⊎_elim (λ x. a.least q x e) (λ x. before p q a.inside x) h }

-- the same places said in another way
pub Finds-same : (test : Place → Bool) (A B : Place → Type 0) (o : Option Place) → ((q : Place) → A q → B q) → ((q : Place) → B q → test q ≡ true → A q)
    → Finds test A o → Finds test B o
Finds-same test A B None to from a = λ q h. false_from_ne_true (test q) (λ e. both_ways (test q) (a q (from q h e)) e)
Finds-same test A B (Some p) to from a =
    record { broken = a.broken; inside = to p a.inside; least = λ q h e. a.least q (from q h e) e }

-- places of a family below a number
abbrev pub Below : (ℕ → Place → Type 0) → ℕ → Place → Type 0
Below Among n q = (i : ℕ) × (i < n) × Among i q

-- a place below one number more is below the number or of the last part
Below-cases : (Among : ℕ → Place → Type 0) (n : ℕ) (q : Place) → Below Among (suc n) q → Below Among n q ⊎ Among n q
Below-cases Among n q h =
    ⊎_elim (λ (l : h.0 < n). inl (h.0, l, h.2)) (λ (l : n ≤ h.0). let e : h.0 ≡ n = omega arith in inr (subst (λ (m : ℕ). Among m q) e h.2)) (cases_lt h.0 n)

-- and the other way round
Below-more : (Among : ℕ → Place → Type 0) (n : ℕ) (q : Place) → Below Among n q ⊎ Among n q → Below Among (suc n) q
Below-more Among n q (inl h) = (h.0, omega arith, h.2)
Below-more Among n q (inr h) = (n, omega arith, h)

-- a search in each part of a family in turn
pub Finds-below : (test : Place → Bool) (Among : ℕ → Place → Type 0) (f : ℕ → Option Place) → ((i : ℕ) → Finds test (Among i) (f i))
    → ((i j : ℕ) (p q : Place) → i < j → Among i p → Among j q → IsNoLater p q) → (n : ℕ) → Finds test (Below Among n) (first_below f n)
Finds-below test Among f each before zero = λ q h. absurd (omega (arith, h.1))
Finds-below test Among f each before (suc n) =
    Finds-same test (λ q. Below Among n q ⊎ Among n q) (Below Among (suc n)) (first_below f (suc n)) (Below-more Among n) (λ q h e. Below-cases Among n q h)
    (Finds-or test (Below Among n) (Among n) (first_below f n) (f n) (Finds-below test Among f each before n) (each n) (λ p q a b. before a.0 n p q a.1 a.2 b))

-- a search at each place of a row
pub Finds-row : (test : Place → Bool) (at : ℕ → Place) → ((i j : ℕ) → i < j → IsNoLater (at i) (at j)) → (n : ℕ)
    → Finds test (Below (λ i q. q ≡ at i) n) (first_below (λ i. cond (test (at i)) (Some (at i)) None) n)
Finds-row test at order n =
    Finds-below test (λ i q. q ≡ at i) (λ i. cond (test (at i)) (Some (at i)) None) (λ i. Finds-one test (at i))
    (λ i j p q l a b. subst₂ (λ (x y : Place). IsNoLater x y) (sym a) (sym b) (order i j l)) n

-- a search at each place of a row of rows
pub Finds-grid : (test : Place → Bool) (at : ℕ → ℕ → Place) → ((i j k : ℕ) → j < k → IsNoLater (at i j) (at i k))
    → ((i i2 j j2 : ℕ) → i < i2 → IsNoLater (at i j) (at i2 j2)) → (m : ℕ → ℕ) (n : ℕ)
    → Finds test (Below (λ i. Below (λ j q. q ≡ at i j) (m i)) n) (first_below (λ i. first_below (λ j. cond (test (at i j)) (Some (at i j)) None) (m i)) n)
Finds-grid test at within across m n =
    Finds-below test (λ i. Below (λ j q. q ≡ at i j) (m i)) (λ i. first_below (λ j. cond (test (at i j)) (Some (at i j)) None) (m i))
    (λ i. Finds-row test (at i) (within i) (m i))
    (λ i i2 p q l a b. subst₂ (λ (x y : Place). IsNoLater x y) (sym a.2) (sym b.2) (across i i2 a.0 b.0 l)) n

-- a search of each place at which the test can pass
pub Finds-all : (test : Place → Bool) (A : Place → Type 0) (o : Option Place) → Finds test A o → ((q : Place) → test q ≡ true → A q)
    → Finds test (λ q. Unit {0}) o
Finds-all test A o a from = Finds-same test A (λ q. Unit {0}) o (λ q h. tt) (λ q h e. from q e) a
