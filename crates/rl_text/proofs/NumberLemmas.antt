-- The digits that `decimal` writes, and what they are worth.
use Rattle.std.proofs.Common.{Bool, not, if◌then◌else◌, ◌≡◌, ℕ, zero, suc, lit<, ◌<◌, ◌^◌, ◌&&◌, nat_lt, true, false, List, length, slice_index, decimal, Option, Some, None, IfSome, Result, Ok, Err, ◌⊎◌, inl, inr, refl, sym, ap, arith, rules}
use Rattle.std.specs.Char.{is_ascii_digit}
use Rattle.std.specs.List.{list_all}
use Rattle.std.specs.Option.{SomeIff}
use Rattle.std.specs.Result.{OkIff, result_ok}
use Rattle.std.specs.Str.{IsUtf8}
use Rattle.std.specs.Str.Parse.{digits_value}
use Rattle.rl_text.specs.Number.{has_leading_zero, number_of}
use Rattle.std.proofs.lemmas.Bool.Decides.{nat_tests}
use Rattle.std.proofs.lemmas.Fmt.{IsAscii-from_digits, decimal-digits_value, digits_decimal, digits_value-decimal, decimal_nonempty, first_decimal, decimal_digit}
use Rattle.std.proofs.lemmas.Str.{IsUtf8-from_ascii}
use Rattle.std.proofs.lemmas.Str.Parse.{IsNumeralModel, numerals_by_value}

-- the test of digits means what `parse` means by digits
pub digits_model : IsNumeralModel (λ ds. list_all is_ascii_digit ds ≡ true) (digits_value 10)
digits_model = numerals_by_value (λ ds. list_all is_ascii_digit ds ≡ true) (search rules)

-- digits are a text
pub IsUtf8-from_digits : (t : List ℕ) → list_all is_ascii_digit t ≡ true → IsUtf8 t
IsUtf8-from_digits t h = IsUtf8-from_ascii t (IsAscii-from_digits t (digits_model.to t h))

-- digits with no zero in front are what `decimal` writes of their number
pub digits-decimal : (t : List ℕ) → list_all is_ascii_digit t ≡ true → has_leading_zero t ≡ false → 0 < length t → digits_value 10 t < 2 ^ 64
    → t ≡ decimal (digits_value 10 t)
digits-decimal t h plain some fits = sym (decimal-digits_value digits_model t h some (λ z. grind (arith, nat_tests)) fits)

-- a text whose first byte isn't 0 has no zero in front
plain-from_first : (t : List ℕ) → 48 < slice_index t 0 → has_leading_zero t ≡ false
plain-from_first t h = grind (arith, nat_tests)

-- what `decimal` writes has no zero in front of another digit
plain-decimal : (n : ℕ) → n < 2 ^ 64 → has_leading_zero (decimal n) ≡ false
plain-decimal zero h = rw (decimal_digit 0 (lit< tt)) refl
plain-decimal (suc n) h = plain-from_first (decimal (suc n)) (first_decimal (suc n) (omega arith) h)

-- t is what `decimal` writes of n: digits that are worth n, with no zero in front
pub record IsDecimalText (t : List ℕ) (n : ℕ) : Type 0 where
  pub digits : list_all is_ascii_digit t ≡ true
  pub plain : has_leading_zero t ≡ false
  pub some : 0 < length t
  pub value : digits_value 10 t ≡ n

pub IsDecimalText-decimal : (t : List ℕ) (n : ℕ) → n < 2 ^ 64 → t ≡ decimal n → IsDecimalText t n
IsDecimalText-decimal t n h e = rw e (record {
  digits = digits_decimal digits_model n h;
  plain = plain-decimal n h;
  some = decimal_nonempty n h;
  value = digits_value-decimal digits_model n h;
})

-- what holds of the one value that an option may have
pub IfSome-from_iff : (o : Option ℕ) (P : Type 0) (v : ℕ) (Q : ℕ → Type 0) → SomeIff o P v → (P → Q v) → IfSome o Q
IfSome-from_iff None P v Q h q = tt
IfSome-from_iff (Some x) P v Q h q = rw h.1 (q h.0)

-- an option has its value where it may
pub Some-from_iff : (o : Option ℕ) (P : Type 0) (v : ℕ) → SomeIff o P v → P → o ≡ Some v
Some-from_iff None P v h p = absurd (h p)
Some-from_iff (Some x) P v h p = ap Some h.1

-- what `ok` keeps of a result
pub SomeIff-result_ok : {E : Type 0} (r : Result ℕ E) (P : Type 0) (v : ℕ) → OkIff r P v → SomeIff (result_ok r) P v
SomeIff-result_ok (Ok x) P v h = h
SomeIff-result_ok (Err e) P v h = h

-- a failed test of digits, or a zero in front, leaves no number
none_by_tests : (some digits leads fits : Bool) (v : ℕ) → (digits ≡ false) ⊎ (leads ≡ true)
    → None ≡ (if some && digits && not leads && fits then Some v else None)
none_by_tests false digits leads fits v h = refl
none_by_tests true false leads fits v h = refl
none_by_tests true true true fits v h = refl
none_by_tests true true false fits v h = elim h [ inl e ↦ cc | inr e ↦ cc ]

-- a text with another byte, or with a zero in front, writes no number
pub number_of-other : (t : List ℕ) → (list_all is_ascii_digit t ≡ false) ⊎ (has_leading_zero t ≡ true) → None ≡ number_of t
unfolding number_of
number_of-other t h = none_by_tests _ _ _ _ _ h

-- no bytes, or too large a number
none_by_bounds : (len v : ℕ) → ¬ ((0 < len) × (v < 2 ^ 64)) → None ≡ (if nat_lt 0 len && true && not false && nat_lt v (2 ^ 64) then Some v else None)
none_by_bounds len v h = grind (arith, nat_tests)

some_by_bounds : (len v : ℕ) → 0 < len → v < 2 ^ 64 → Some v ≡ (if nat_lt 0 len && true && not false && nat_lt v (2 ^ 64) then Some v else None)
some_by_bounds len v some fits = grind (arith, nat_tests)

-- digits with no zero in front write their number, where there are any and it fits
pub number_of-digits : (t : List ℕ) (o : Option ℕ) → list_all is_ascii_digit t ≡ true → has_leading_zero t ≡ false
    → SomeIff o ((0 < length t) × (digits_value 10 t < 2 ^ 64)) (digits_value 10 t) → o ≡ number_of t
unfolding number_of
number_of-digits t None h plain s = rw (h, plain) (none_by_bounds (length t) (digits_value 10 t) s)
number_of-digits t (Some x) h plain s = rw (h, plain, s.1) (some_by_bounds (length t) (digits_value 10 t) s.0.0 s.0.1)
