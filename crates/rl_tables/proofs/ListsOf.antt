-- A list that grows at its end by what belongs there, and two lists of which the same is said.
use Rattle.std.proofs.Common.{◌≡◌, ℕ, ◌+◌, zero, suc, ◌<◌, List, [], ◌∷◌, ◌++◌, length, slice_get, Some, refl, ap, ◌∙◌, arith}
use Rattle.std.proofs.lemmas.List.{length_push}
use Rattle.rl_base.proofs.Lists.{each_push}
use Rattle.rl_tables.specs.Tables.{IsListOf}

pub nothing : {A : Type 0} (P : ℕ → A → Type 0) → IsListOf 0 P []
nothing P = record { length_is = refl; each = λ k x is. absurd (cc) }

pub one_more : {A : Type 0} (P : ℕ → A → Type 0) (n : ℕ) (xs : List A) (y : A) → IsListOf n P xs → P n y → IsListOf (n + 1) P (xs ++ y ∷ [])
one_more P n xs y is here =
    let count = is.length_is in
    record {
      length_is = length_push xs y ∙ ap (λ m. m + 1) count;
      each = each_push P xs y is.each (rw count here);
    }

-- a place of a list is there
pub there : {A : Type 0} (xs : List A) (k : ℕ) → k < length xs → (x : A) × (slice_get xs k ≡ Some x)
there [] k h = absurd (omega arith)
there (x ∷ xs) zero h = (x, refl)
there (x ∷ xs) (suc k) h = there xs k (omega arith)
