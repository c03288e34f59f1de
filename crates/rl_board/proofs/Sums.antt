-- Numbers below a bound: the first that passes, and sums in which one number changes.
use Rattle.std.proofs.Common.{◌≡◌, ℕ, zero, suc, ◌+◌, ◌*◌, ◌<◌, ◌≤◌, Bool, true, false, Option, Some, None, ◌⊎◌, inl, inr, refl, sym, ap, ap₂, ◌∙◌, subst, add-one, arith, if◌then◌else◌}
use Rattle.std.specs.Prelude.{is_some}
use Rattle.std.specs.Option.{option_map_or}
use Rattle.std.proofs.lemmas.Bool.{cases_eq, false_from_ne_true}
use Rattle.rl_board.specs.Below.{first_below, some_below, sum_below, one_if, count_below}

pub first_none : (p : ℕ → Bool) (n : ℕ) → ((k : ℕ) → k < n → p k ≡ false) → first_below p n ≡ None
first_none p zero none = refl
first_none p (suc n) none =
    let before = first_none p n (λ k low. none k (omega arith)) in
    let here = none n (omega arith) in
    ap₂ (λ (o : Option ℕ) (b : Bool). option_map_or (λ (k : ℕ). Some k) o (if b then Some n else None)) before here

either_some : (o : Option ℕ) (b : Bool) (n : ℕ) → (is_some o ≡ true) ⊎ (b ≡ true)
    → is_some (option_map_or (λ (k : ℕ). Some k) o (if b then Some n else None)) ≡ true
either_some (Some k) b n either = refl
either_some None true n either = refl
either_some None false n (inl some) = absurd (cc)
either_some None false n (inr here) = absurd (cc)

pub first_some : (p : ℕ → Bool) (n k : ℕ) → k < n → p k ≡ true → some_below p n ≡ true
first_some p zero k low is = absurd (omega arith)
first_some p (suc n) k low is =
    elim (cases_eq k n) [
      | inl same ↦ either_some (first_below p n) (p n) n (inr (subst (λ (j : ℕ). p j ≡ true) same is))
      | inr apart ↦ either_some (first_below p n) (p n) n (inl (first_some p n k (omega arith) is))
    ]

pub first_one : (p : ℕ → Bool) (n k : ℕ) → k < n → p k ≡ true → ((j : ℕ) → p j ≡ true → j ≡ k) → first_below p n ≡ Some k
first_one p zero k low is only = absurd (omega arith)
first_one p (suc n) k low is only =
    elim (cases_eq k n) [
      | inl same ↦
          let before = first_none p n (λ j less. false_from_ne_true (p j) (λ here. let at = only j here in absurd (omega arith))) in
          let here = subst (λ (j : ℕ). p j ≡ true) same is in
          ap₂ (λ (o : Option ℕ) (b : Bool). option_map_or (λ (j : ℕ). Some j) o (if b then Some n else None)) before here
          ∙ ap (λ (j : ℕ). Some j) (sym same)
      | inr apart ↦
          let before = first_one p n k (omega arith) is only in
          ap (λ (o : Option ℕ). option_map_or (λ (j : ℕ). Some j) o (if p n then Some n else None)) before
    ]

pub first_same : (p q : ℕ → Bool) (n : ℕ) → ((k : ℕ) → p k ≡ q k) → first_below p n ≡ first_below q n
first_same p q n same = λ i. first_below (λ k. same k i) n

pub some_none : (p : ℕ → Bool) (n : ℕ) → ((k : ℕ) → p k ≡ false) → some_below p n ≡ false
some_none p n none = ap (λ (o : Option ℕ). is_some o) (first_none p n (λ k low. none k))

pub sum_same : (f g : ℕ → ℕ) (n : ℕ) → ((k : ℕ) → k < n → f k ≡ g k) → sum_below f n ≡ sum_below g n
sum_same f g zero same = refl
sum_same f g (suc n) same = ap₂ (λ (x y : ℕ). x + y) (sum_same f g n (λ k low. same k (omega arith))) (same n (omega arith))

-- where f and g differ at one number alone, so do their sums
pub sum_changed : (f g : ℕ → ℕ) (n i : ℕ) → i < n → ((k : ℕ) → (k ≡ i → ⊥) → f k ≡ g k) → sum_below f n + g i ≡ sum_below g n + f i
sum_changed f g zero i low others = absurd (omega arith)
sum_changed f g (suc n) i low others =
    elim (cases_eq i n) [
      | inl same ↦
          let before = sum_same f g n (λ k less. others k (λ e. absurd (omega arith))) in
          let at_f = ap f same in
          let at_g = ap g same in
          omega arith
      | inr apart ↦
          let before = sum_changed f g n i (omega arith) others in
          let here = others n (λ e. apart (sym e)) in
          omega arith
    ]

pub pairs_changed : (p q : ℕ → ℕ → Bool) (rows columns s b : ℕ) → s < rows → b < columns
    → ((y z : ℕ) → ((y ≡ s) × (z ≡ b) → ⊥) → p y z ≡ q y z)
    → sum_below (λ y. count_below (p y) columns) rows + one_if (q s b) ≡ sum_below (λ y. count_below (q y) columns) rows + one_if (p s b)
pairs_changed p q rows columns s b low low2 same =
    let outer = sum_changed (λ y. count_below (p y) columns) (λ y. count_below (q y) columns) rows s low
    (λ y apart. sum_same (λ z. one_if (p y z)) (λ z. one_if (q y z)) columns (λ z less. ap one_if (same y z (λ both. apart both.0)))) in
    let inner = sum_changed (λ z. one_if (p s z)) (λ z. one_if (q s z)) columns b low2 (λ z apart. ap one_if (same s z (λ both. apart both.1))) in
    omega arith

pub sum_none : (f : ℕ → ℕ) (n : ℕ) → ((k : ℕ) → f k ≡ 0) → sum_below f n ≡ 0
sum_none f zero none = refl
sum_none f (suc n) none =
    let before = sum_none f n none in
    let here = none n in
    omega arith

pub sum_few : (f : ℕ → ℕ) (n c : ℕ) → ((k : ℕ) → f k ≤ c) → sum_below f n ≤ n * c
sum_few f zero c few = omega arith
sum_few f (suc n) c few =
    let before = sum_few f n c few in
    let here = few n in
    omega arith

one_at_most : (b : Bool) → one_if b ≤ 1
one_at_most true = omega arith
one_at_most false = omega arith

pub count_few : (p : ℕ → Bool) (n : ℕ) → count_below p n ≤ n
count_few p n = let few = sum_few (λ k. one_if (p k)) n 1 (λ k. one_at_most (p k)) in omega arith

pub sum_more : (f : ℕ → ℕ) (n : ℕ) → sum_below f (n + 1) ≡ sum_below f n + f n
sum_more f n = rw add-one refl
