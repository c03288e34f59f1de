-- The names at the even places of a list, and the boxes that have a name.
use Rattle.std.proofs.Common.{◌≡◌, ℕ, zero, suc, ◌+◌, ◌*◌, ◌≤◌, Bool, true, false, cond, List, [], ◌∷◌, length, map, drop, slice_get, find, bytes_eq, Some, option_map, refl, ◌∙◌, subst, arith}
use Rattle.std.proofs.lemmas.Option.{none-some, same_Some}
use Rattle.rl_base.specs.declared.draft.DraftBox.{DraftBox}
use Rattle.rl_drafts.specs.Drafts.{number_in, every_other}
use Rattle.rl_drafts.proofs.Lookups.{map_some, item_after_first}

-- the name at place k of them is the name at place 2k
pub every_other-item : (xs : List (List ℕ)) (k : ℕ) → slice_get (every_other xs) k ≡ slice_get xs (2 * k)
every_other-item [] k = refl
every_other-item (x ∷ []) zero = refl
every_other-item (x ∷ []) (suc k) = let e : 2 * suc k ≡ suc (suc (2 * k)) = omega arith in rw e refl
every_other-item (x ∷ y ∷ xs) zero = refl
every_other-item (x ∷ y ∷ xs) (suc k) = let e : 2 * suc k ≡ suc (suc (2 * k)) = omega arith in rw e (every_other-item xs k)

-- and at the odd places, which are the even places of what follows the first
pub every_other-odd : (xs : List (List ℕ)) (k : ℕ) → slice_get (every_other (drop 1 xs)) k ≡ slice_get xs (suc (2 * k))
every_other-odd xs k = every_other-item (drop 1 xs) k ∙ item_after_first xs (2 * k)

-- they are half of the names, rounded up
pub record IsHalf (n m : ℕ) : Type 0 where
  pub least : n ≤ 2 * m
  pub most : 2 * m ≤ n + 1

-- of a list they are half
pub length-every_other : (xs : List (List ℕ)) → IsHalf (length xs) (length (every_other xs))
length-every_other [] = record { least = omega arith; most = omega arith }
length-every_other (x ∷ []) = record { least = omega arith; most = omega arith }
length-every_other (x ∷ y ∷ xs) =
    let h = length-every_other xs in
    record { least = omega (arith, h.least); most = omega (arith, h.most) }

-- the box that is found by its name is the one that has the name's number
pub find-number : (boxes : List DraftBox) (name : List ℕ) (b : ℕ) → number_in (map (λ (x : DraftBox). x.name) boxes) name ≡ Some b
    → find (λ (x : DraftBox). bytes_eq x.name name) boxes ≡ slice_get boxes b
find-number [] name b e = absurd (none-some b e)
find-number (x ∷ xs) name b e = at (bytes_eq x.name name) b e (find-number xs name)
  where
    at : (t : Bool) (b : ℕ) → cond t (Some 0) (option_map suc (number_in (map (λ (x : DraftBox). x.name) xs) name)) ≡ Some b
        → ((j : ℕ) → number_in (map (λ (x : DraftBox). x.name) xs) name ≡ Some j → find (λ (x : DraftBox). bytes_eq x.name name) xs ≡ slice_get xs j)
        → cond t (Some x) (find (λ (x : DraftBox). bytes_eq x.name name) xs) ≡ slice_get (x ∷ xs) b
    at true b e rest = subst (λ (m : ℕ). Some x ≡ slice_get (x ∷ xs) m) (same_Some 0 b e) refl
    at false b e rest =
        let h = map_some suc (number_in (map (λ (x : DraftBox). x.name) xs) name) b e in
        subst (λ (m : ℕ). find (λ (x : DraftBox). bytes_eq x.name name) xs ≡ slice_get (x ∷ xs) m) h.2 (rest h.0 h.1)
