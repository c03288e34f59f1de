-- Conditions that refuse a text, each with the place that it names, and the first place at which one holds.
use Rattle.std.specs.Prelude.{ℕ, ◌+◌, Bool, true, Option, Some, None, if◌then◌else◌, List, [], ◌∷◌, ◌++◌, Contains}
use Rattle.rl_base.specs.Place.{IsNoLater}
use Rattle.rl_base.specs.declared.place.Place.{Place}

-- whether it holds, and where
abbrev pub Condition : Type 0
Condition = Bool × Place

-- one of the conditions holds at the place
abbrev pub HoldsAt : List Condition → Place → Type 0
HoldsAt cs p = Contains cs (true, p)

-- none holds anywhere
abbrev pub NoneHolds : List Condition → Type 0
NoneHolds cs = (p : Place) → ¬ (HoldsAt cs p)

-- the plain sentence: one holds at the place, and none at a place before it
pub record IsFirstPlace (cs : List Condition) (p : Place) : Type 0 where
  pub holds : HoldsAt cs p
  pub least : (q : Place) → HoldsAt cs q → IsNoLater p q

-- The same as a search: the place of the first of the list that holds
abbrev pub first : List Condition → Option Place
first [] = None
first (c ∷ cs) = if c.0 then Some c.1 else first cs

-- those of the items of a list, numbered from i
abbrev pub of_list : {A : Type 0} → (ℕ → A → List Condition) → ℕ → List A → List Condition
of_list f i [] = []
of_list f i (x ∷ xs) = f i x ++ of_list f (i + 1) xs
