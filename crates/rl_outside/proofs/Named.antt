-- The names whose fetch failed, and how often one stands there.
use Rattle.std.proofs.Common.{◌≡◌, ◌≢◌, ℕ, ◌+◌, ◌≤◌, Bool, true, false, cond, List, [], ◌∷◌, ◌++◌, get_or, set, None, zero, suc, Result, Ok, Err, refl, sym, arith}
use Rattle.std.specs.List.{find, position, position_or_len}
use Rattle.std.specs.Str.{bytes_eq}
use Rattle.std.proofs.lemmas.Bool.{false_from_ne_true}
use Rattle.std.proofs.lemmas.Slice.Eq.{bytes_eq-Decides}
use Rattle.std.proofs.lemmas.List.Sums.{sum_by-append}
use Rattle.std.proofs.lemmas.List.Folds.{find_at}
use Rattle.std.proofs.lemmas.Bool.Decides.{nat_tests}
use Rattle.std.proofs.lemmas.Option.{slice_get_past}
use Rattle.rl_outside.specs.Causes.{times_in, failed_after}
use Rattle.rl_outside.specs.declared.files.Fetch.{Fetch}
use Rattle.rl_outside.specs.declared.files.Fetch.TheVariants.{Failed, TooLong, NoMemory}

-- a name passes the test for itself
pub bytes_eq-same : (name : List ℕ) → bytes_eq name name ≡ true
bytes_eq-same name = (bytes_eq-Decides name name).1 refl

-- another name doesn't
pub bytes_eq-other : (n name : List ℕ) → n ≢ name → bytes_eq name n ≡ false
bytes_eq-other n name other = false_from_ne_true _ (λ same. other (sym ((bytes_eq-Decides name n).0 same)))

-- one more fault of a name counts for that name
pub times_in-note : (names : List (List ℕ)) (name : List ℕ) → times_in (names ++ name ∷ []) name ≡ times_in names name + 1
times_in-note names name =
    let same = bytes_eq-same name in
    grind (arith, sum_by-append {X = List ℕ} (λ n. cond (bytes_eq n name) 1 0) names (name ∷ []))

-- and for no other
pub times_in-note_other : (names : List (List ℕ)) (name n : List ℕ) → n ≢ name →
    times_in (names ++ name ∷ []) n ≡ times_in names n
times_in-note_other names name n other =
    let differs = bytes_eq-other n name other in
    grind (arith, sum_by-append {X = List ℕ} (λ m. cond (bytes_eq m n) 1 0) names (name ∷ []))

-- no answer lowers a count
pub times_in-failed_after : {T : Type 0} (result : Result T Fetch) (names : List (List ℕ)) (name n : List ℕ) →
    times_in names n ≤ times_in (failed_after result names name) n
times_in-failed_after (Ok bytes) names name n = omega arith
times_in-failed_after (Err Failed) names name n =
    omega (arith, sum_by-append {X = List ℕ} (λ m. cond (bytes_eq m n) 1 0) names (name ∷ []))
times_in-failed_after (Err TooLong) names name n = omega arith
times_in-failed_after (Err NoMemory) names name n = omega arith

-- a write at a place that failed the test, of a value that fails it too, leaves what is found
pub find-set_other : {X : Type 0} (q : X → Bool) (xs : List X) (i : ℕ) (y d : X) →
    q y ≡ false → q (get_or xs i d) ≡ false → find q (set xs i y) ≡ find q xs
find-set_other q [] i y d new_fails old_fails = refl
find-set_other q (x ∷ xs) zero y d new_fails old_fails = rw (new_fails, old_fails) refl
find-set_other q (x ∷ xs) (suc i) y d new_fails old_fails = rw (find-set_other q xs i y d new_fails old_fails) refl

-- where there is no place of such an item, none is found
pub find-nowhere : {X : Type 0} (p : X → Bool) (xs : List X) → position p xs ≡ None → find p xs ≡ None
find-nowhere p xs nowhere = grind (arith, nat_tests, find_at p xs, slice_get_past xs (position_or_len p xs))
