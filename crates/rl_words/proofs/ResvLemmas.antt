-- One arm of a reservation word, in the word and in its packing.
use Rattle.std.proofs.Common.{◌≡◌, ◌≢◌, ℕ, zero, suc, ◌*◌, ◌<◌, Option, Some, None, refl, arith}
use Rattle.rl_base.specs.declared.ids.TrainId.{TrainId}
use Rattle.rl_words.specs.declared.resv.ResvWord.{ResvWord}
use Rattle.rl_words.specs.Fields.{field, with_field}
use Rattle.rl_words.specs.Resv.{FitsArm, FitsResv, arm_code, packed_resv, arm_in, with_arm}

pub arm_code-lt : (arm : Option TrainId) → FitsArm arm → arm_code arm < 64
arm_code-lt None h = omega arith
arm_code-lt (Some t) h = omega arith

-- what holds of each of the four arms holds of every number below 4
four_arms : (P : ℕ → Type 0) → P 0 → P 1 → P 2 → P 3 → (x : ℕ) → x < 4 → P x
four_arms P p0 p1 p2 p3 zero h = p0
four_arms P p0 p1 p2 p3 (suc zero) h = p1
four_arms P p0 p1 p2 p3 (suc (suc zero)) h = p2
four_arms P p0 p1 p2 p3 (suc (suc (suc zero))) h = p3
four_arms P p0 p1 p2 p3 (suc (suc (suc (suc x)))) h = absurd (omega arith)

-- the code of an arm is a field of the packing
pub field-packed_resv : (w : ResvWord) (x : ℕ) → FitsResv w → x < 4 → field (packed_resv w) (6 * x) 6 ≡ arm_code (arm_in w x)
field-packed_resv w x fits below =
    let c0 = arm_code-lt w.arm0 fits.arm0 in
    let c1 = arm_code-lt w.arm1 fits.arm1 in
    let c2 = arm_code-lt w.arm2 fits.arm2 in
    let c3 = arm_code-lt w.arm3 fits.arm3 in
    let P : ℕ → Type 0 = λ n. field (packed_resv w) (6 * n) 6 ≡ arm_code (arm_in w n) in
    four_arms P (omega arith) (omega arith) (omega arith) (omega arith) x below

-- to change an arm is to write that field
pub packed_resv-with_arm : (w : ResvWord) (x : ℕ) (arm : Option TrainId) → FitsResv w → x < 4
    → packed_resv (with_arm w x arm) ≡ with_field (packed_resv w) (6 * x) 6 (arm_code arm)
packed_resv-with_arm w x arm fits below =
    let c0 = arm_code-lt w.arm0 fits.arm0 in
    let c1 = arm_code-lt w.arm1 fits.arm1 in
    let c2 = arm_code-lt w.arm2 fits.arm2 in
    let c3 = arm_code-lt w.arm3 fits.arm3 in
    let P : ℕ → Type 0 = λ n. packed_resv (with_arm w n arm) ≡ with_field (packed_resv w) (6 * n) 6 (arm_code arm) in
    four_arms P (omega arith) (omega arith) (omega arith) (omega arith) x below

-- the word with an arm changed still fits
pub FitsResv-with_arm : (w : ResvWord) (x : ℕ) (arm : Option TrainId) → FitsResv w → FitsArm arm → x < 4 → FitsResv (with_arm w x arm)
FitsResv-with_arm w x arm fits here below =
    let P : ℕ → Type 0 = λ n. FitsResv (with_arm w n arm) in
    four_arms P
    (record { arm0 = here; arm1 = fits.arm1; arm2 = fits.arm2; arm3 = fits.arm3 })
    (record { arm0 = fits.arm0; arm1 = here; arm2 = fits.arm2; arm3 = fits.arm3 })
    (record { arm0 = fits.arm0; arm1 = fits.arm1; arm2 = here; arm3 = fits.arm3 })
    (record { arm0 = fits.arm0; arm1 = fits.arm1; arm2 = fits.arm2; arm3 = here })
    x below

-- the arm that was changed
pub arm_in-with_arm_same : (w : ResvWord) (x : ℕ) (arm : Option TrainId) → x < 4 → arm_in (with_arm w x arm) x ≡ arm
arm_in-with_arm_same w x arm below =
    let P : ℕ → Type 0 = λ n. arm_in (with_arm w n arm) n ≡ arm in
    four_arms P refl refl refl refl x below

-- and each other one
pub arm_in-with_arm_other : (w : ResvWord) (x y : ℕ) (arm : Option TrainId) → x < 4 → y < 4 → y ≢ x → arm_in (with_arm w x arm) y ≡ arm_in w y
arm_in-with_arm_other w x y arm hx hy apart =
    let P : ℕ → Type 0 = λ n. y ≢ n → arm_in (with_arm w n arm) y ≡ arm_in w y in
    let Q : ℕ → ℕ → Type 0 = λ n m. m ≢ n → arm_in (with_arm w n arm) m ≡ arm_in w m in
    four_arms P
    (four_arms (Q 0) (λ e. absurd (e refl)) (λ e. refl) (λ e. refl) (λ e. refl) y hy)
    (four_arms (Q 1) (λ e. refl) (λ e. absurd (e refl)) (λ e. refl) (λ e. refl) y hy)
    (four_arms (Q 2) (λ e. refl) (λ e. refl) (λ e. absurd (e refl)) (λ e. refl) y hy)
    (four_arms (Q 3) (λ e. refl) (λ e. refl) (λ e. refl) (λ e. absurd (e refl)) y hy)
    x hx apart
