-- The first condition that holds, in parts of a list.
use Rattle.std.proofs.Common.{◌≡◌, ℕ, ◌+◌, ◌<◌, true, false, List, [], ◌∷◌, ◌++◌, length, get_or, drop, Option, Some, None, refl}
use Rattle.std.proofs.lemmas.List.{drop_more}
use Rattle.rl_base.specs.declared.place.Place.{Place}
use Rattle.rl_syntax.specs.Condition.{Condition, first, of_list}

-- where nothing before holds, what follows decides
abbrev pub or_else : Option Place → Option Place → Option Place
or_else None o = o
or_else (Some p) o = Some p

pub first-append : (cs ds : List Condition) → first (cs ++ ds) ≡ or_else (first cs) (first ds)
first-append [] ds = refl
first-append ((true, p) ∷ cs) ds = refl
first-append ((false, p) ∷ cs) ds = first-append cs ds

-- the item at i comes next
pub of_list-drop : {A : Type 0} (f : ℕ → A → List Condition) (i : ℕ) (xs : List A) (x : A) → i < length xs → x ≡ get_or xs i x
    → first (of_list f i (drop i xs)) ≡ or_else (first (f i x)) (first (of_list f (i + 1) (drop (i + 1) xs)))
of_list-drop f i xs x h e = rw (drop_more xs i x h, ← e) (first-append (f i x) (of_list f (i + 1) (drop (i + 1) xs)))

pub ruleset steps = (first-append, of_list-drop)
