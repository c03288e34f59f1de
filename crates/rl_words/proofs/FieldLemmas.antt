-- Fields of numbers: what a read finds, and what a write leaves.
use Rattle.std.proofs.Common.{◌≡◌, ℕ, ◌+◌, ◌-◌, ◌*◌, ◌/◌, ◌%◌, ◌^◌, ◌<◌, ◌≤◌, sym, ap, ◌∙◌, arith}
use Rattle.std.proofs.lemmas.Nat.{pow-add, pow_pos, shr-shr, shr_split, mod-pow-add, field_of, shr_high, mod_low, mod_below, mul-add-lt}
use Rattle.rl_words.specs.Fields.{field, with_field}

-- a field is read where it stands between low and high ones
pub field_between : (low v high i n : ℕ) → low < 2 ^ i → v < 2 ^ n → field (low + v * 2 ^ i + high * 2 ^ (i + n)) i n ≡ v
field_between low v high i n below fits =
    let grouped : low + v * 2 ^ i + high * 2 ^ (i + n) ≡ (high * 2 ^ n + v) * 2 ^ i + low = rw (pow-add 2 i n) (omega arith) in
    rw (grouped, shr_high (high * 2 ^ n + v) i low below) (mod_low high n v fits)

-- a write leaves the bits below the field
low-with_field : (x i n v : ℕ) → with_field x i n v % 2 ^ i ≡ x % 2 ^ i
low-with_field x i n v =
    let grouped : with_field x i n v ≡ (x / 2 ^ (i + n) * 2 ^ n + v) * 2 ^ i + x % 2 ^ i = rw (pow-add 2 i n) (omega arith) in
    rw grouped (mod_low (x / 2 ^ (i + n) * 2 ^ n + v) i (x % 2 ^ i) (mod_below x (2 ^ i) (pow_pos i)))

-- and those above it
high-with_field : (x i n v : ℕ) → v < 2 ^ n → with_field x i n v / 2 ^ (i + n) ≡ x / 2 ^ (i + n)
high-with_field x i n v fits =
    let grouped : with_field x i n v ≡ x / 2 ^ (i + n) * 2 ^ (i + n) + (v * 2 ^ i + x % 2 ^ i) = omega arith in
    let within : v * 2 ^ i + x % 2 ^ i < 2 ^ (i + n) = rw (pow-add 2 i n) (mul-add-lt v (2 ^ i) (x % 2 ^ i) (2 ^ n) fits (mod_below x (2 ^ i) (pow_pos i))) in
    rw grouped (shr_high (x / 2 ^ (i + n)) (i + n) (v * 2 ^ i + x % 2 ^ i) within)

-- a field that was written is read
pub field-with_field : (x i n v : ℕ) → v < 2 ^ n → field (with_field x i n v) i n ≡ v
field-with_field x i n v fits =
    let turned : with_field x i n v ≡ x % 2 ^ i + v * 2 ^ i + x / 2 ^ (i + n) * 2 ^ (i + n) = omega arith in
    rw turned (field_between (x % 2 ^ i) v (x / 2 ^ (i + n)) i n (mod_below x (2 ^ i) (pow_pos i)) fits)

-- numbers with the same j low bits have the same k low bits, for k up to j
low_fewer : (x y j k : ℕ) → k ≤ j → x % 2 ^ j ≡ y % 2 ^ j → x % 2 ^ k ≡ y % 2 ^ k
low_fewer x y j k less same = sym (fewer x) ∙ ap (λ n. n % 2 ^ k) same ∙ fewer y where
  all : j ≡ j - k + k
  all = omega arith

  fewer : (n : ℕ) → n % 2 ^ j % 2 ^ k ≡ n % 2 ^ k
  fewer n =
      let split : n % 2 ^ j ≡ (n / 2 ^ k % 2 ^ (j - k)) * 2 ^ k + n % 2 ^ k = ap (λ i. n % 2 ^ i) all ∙ mod-pow-add n (j - k) k in
      rw split (mod_low (n / 2 ^ k % 2 ^ (j - k)) k (n % 2 ^ k) (mod_below n (2 ^ k) (pow_pos k)))

-- a write leaves each field below
pub field-with_field_above : (x i n v j m : ℕ) → j + m ≤ i → field (with_field x i n v) j m ≡ field x j m
field-with_field_above x i n v j m below =
    let same : with_field x i n v % 2 ^ (m + j) ≡ x % 2 ^ (m + j) = low_fewer (with_field x i n v) x i (m + j) (omega arith) (low-with_field x i n v) in
    sym (field_of (with_field x i n v) m j) ∙ ap (λ y. y / 2 ^ j) same ∙ field_of x m j

-- numbers with the same bits from j on have the same bits from k on, for k from j
high_fewer : (x y j k : ℕ) → j ≤ k → x / 2 ^ j ≡ y / 2 ^ j → x / 2 ^ k ≡ y / 2 ^ k
high_fewer x y j k more same = sym (fewer x) ∙ ap (λ n. n / 2 ^ (k - j)) same ∙ fewer y where
  all : j + (k - j) ≡ k
  all = omega arith

  fewer : (n : ℕ) → n / 2 ^ j / 2 ^ (k - j) ≡ n / 2 ^ k
  fewer n = shr-shr n j (k - j) ∙ ap (λ i. n / 2 ^ i) all

-- and each field above
pub field-with_field_below : (x i n v j m : ℕ) → v < 2 ^ n → i + n ≤ j → field (with_field x i n v) j m ≡ field x j m
field-with_field_below x i n v j m fits above =
    ap (λ y. y % 2 ^ m) (high_fewer (with_field x i n v) x (i + n) j above (high-with_field x i n v fits))

-- to write what a field says already changes nothing
pub with_field_same : (x i n : ℕ) → with_field x i n (field x i n) ≡ x
with_field_same x i n =
    let split : x % 2 ^ (i + n) ≡ field x i n * 2 ^ i + x % 2 ^ i =
    ap (λ j. x % 2 ^ j) (let turned : i + n ≡ n + i = omega arith in turned) ∙ mod-pow-add x n i in
    omega (arith, split, shr_split x (i + n))
