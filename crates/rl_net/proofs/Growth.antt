-- Lists that are made item by item from the items of another list.
use Rattle.std.proofs.Common.{◌≡◌, ℕ, zero, suc, ◌+◌, ◌<◌, List, [], ◌∷◌, ◌++◌, length, map, take, drop, get_or, refl, sym, ap, ◌∙◌, arith, append_assoc}
use Rattle.std.proofs.lemmas.List.{map_more}
use Rattle.rl_drafts.specs.Drafts.{every_other}

-- one item more is appended
pub map_step : {X Y : Type 0} (f : X → Y) (xs : List X) (made next : List Y) (i : ℕ) (x : X) (y : Y) → i < length xs → x ≡ get_or xs i x
    → made ≡ map f (take i xs) → y ≡ f x → next ≡ made ++ y ∷ [] → next ≡ map f (take (i + 1) xs)
map_step f xs made next i x y lt e before is pushed =
    let item = is ∙ ap f e in
    pushed ∙ rw (before, item) (sym (map_more f xs i x lt))

-- the name at a place and those at every other place after it
every_other_more : (xs : List (List ℕ)) (k : ℕ) (x : List ℕ) → k < length xs → x ≡ get_or xs k x
    → every_other (drop k xs) ≡ x ∷ every_other (drop (suc (suc k)) xs)
every_other_more [] k x lt e = absurd (omega arith)
every_other_more (y ∷ []) zero x lt e = rw e refl
every_other_more (y ∷ z ∷ zs) zero x lt e = rw e refl
every_other_more (y ∷ ys) (suc k) x lt e = every_other_more ys k x (omega arith) e

-- one name more is appended, and two places are done
pub every_other_step : {Y : Type 0} (f : List ℕ → Y) (route : List (List ℕ)) (made next all : List Y) (k : ℕ) (x : List ℕ) (y : Y) → k < length route
    → x ≡ get_or route k x → made ++ map f (every_other (drop k route)) ≡ all → y ≡ f x → next ≡ made ++ y ∷ []
    → next ++ map f (every_other (drop (k + 2) route)) ≡ all
every_other_step f route made next all k x y lt e before is pushed =
    let two : k + 2 ≡ suc (suc k) = omega arith in
    let rest = rw (every_other_more route k x lt e) at before in
    rw (two, pushed, is, append_assoc) rest
