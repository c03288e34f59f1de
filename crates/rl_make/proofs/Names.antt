-- The names of a ring: those of one letter are the same where their numbers are.
use Rattle.std.proofs.Common.{◌≡◌, ℕ, ◌<◌, ◌^◌, Bool, true, false, eqb, decimal, bytes_eq, refl, ap, ◌∙◌, arith}
use Rattle.std.proofs.lemmas.Bool.{eqb-true}
use Rattle.std.proofs.lemmas.Bool.Decides.{nat_tests}
use Rattle.std.proofs.lemmas.Fmt.{decimal_injective}
use Rattle.std.proofs.lemmas.Slice.Eq.{bytes_eq-Decides}

both : (a b : Bool) → (a ≡ true → b ≡ true) → (b ≡ true → a ≡ true) → a ≡ b
both true true f g = refl
both true false f g = let h = f refl in cc
both false true f g = let h = g refl in cc
both false false f g = refl

pub same_number : (i j : ℕ) → i < 2 ^ 64 → j < 2 ^ 64 → bytes_eq (decimal i) (decimal j) ≡ eqb i j
same_number i j l m =
    both (bytes_eq (decimal i) (decimal j)) (eqb i j)
    (λ h. let e = decimal_injective i j l m ((bytes_eq-Decides (decimal i) (decimal j)).0 h) in grind (arith, nat_tests))
    (λ h. let e : i ≡ j = eqb-true i j h in (bytes_eq-Decides (decimal i) (decimal j)).1 (ap decimal e))

-- of two numbers the greater has another name
pub differs : (i j : ℕ) → i < j → j < 2 ^ 64 → bytes_eq (decimal i) (decimal j) ≡ false
differs i j l m = same_number i j (omega arith) m ∙ grind (arith, nat_tests)

pub same : (i : ℕ) → bytes_eq (decimal i) (decimal i) ≡ true
same i = (bytes_eq-Decides (decimal i) (decimal i)).1 refl
