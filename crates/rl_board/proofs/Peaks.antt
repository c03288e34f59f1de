-- The peak with one number more, and that there is one.
use Rattle.std.proofs.Common.{◌≡◌, ℕ, ◌+◌, ◌<◌, ◌≤◌, inl, inr, ap, arith}
use Rattle.std.proofs.lemmas.Bool.{cases_lt, cases_order}
use Rattle.rl_board.specs.BoardText.{IsPeak}

pub peak_start : (f : ℕ → ℕ) (peak : ℕ) → f 0 ≡ peak → IsPeak f 0 peak 0
peak_start f peak is =
    record {
      within = omega arith;
      value = is;
      greatest = λ k low. let at : k ≡ 0 = omega arith in let same = ap f at in omega arith;
      first = λ k low. absurd (omega arith);
    }

pub peak_new : (f : ℕ → ℕ) (n peak place new next : ℕ) → next ≡ n + 1 → f next ≡ new → peak < new → IsPeak f n peak place → IsPeak f next new next
peak_new f n peak place new next is value more old =
    record {
      within = omega arith;
      value = value;
      greatest = λ k low.
          elim (cases_lt n k) [
            | inl above ↦ let at : k ≡ next = omega arith in let same = ap f at in omega arith
            | inr before ↦ let low = old.greatest k before in omega arith
          ];
      first = λ k low. let before : k ≤ n = omega arith in let less = old.greatest k before in omega arith;
    }

pub peak_kept : (f : ℕ → ℕ) (n peak place new next : ℕ) → next ≡ n + 1 → f next ≡ new → new ≤ peak → IsPeak f n peak place → IsPeak f next peak place
peak_kept f n peak place new next is value less old =
    let within = old.within in
    record {
      within = omega arith;
      value = old.value;
      greatest = λ k low.
          elim (cases_lt n k) [
            | inl above ↦ let at : k ≡ next = omega arith in let same = ap f at in omega arith
            | inr before ↦ old.greatest k before
          ];
      first = old.first;
    }

pub one_peak : (f : ℕ → ℕ) (n p q a b : ℕ) → IsPeak f n p a → IsPeak f n q b → (p ≡ q) × (a ≡ b)
one_peak f n p q a b one two =
    let first = two.greatest a one.within in
    let second = one.greatest b two.within in
    let at_a = one.value in
    let at_b = two.value in
    let same : p ≡ q = omega arith in
    elim (cases_order a b) [
      | inl equal ↦ (same, equal)
      | inr (inl less) ↦ let below = two.first a less in absurd (omega arith)
      | inr (inr more) ↦ let below = one.first b more in absurd (omega arith)
    ]
