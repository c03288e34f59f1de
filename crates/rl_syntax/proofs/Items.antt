-- One step of a loop over the items of an array.
use Rattle.std.proofs.Common.{◌≡◌, ℕ, ◌+◌, ◌<◌, List, [], ◌∷◌, ◌++◌, length, get_or, drop}
use Rattle.toml.specs.Data.{Data}
use Rattle.toml.specs.View.{view, items_view}
use Rattle.toml.specs.declared.value.Value.{Value}
use Rattle.toml.proofs.Views.{items_view-drop}
use Rattle.rl_syntax.specs.Reading.{Read, ◌>>=◌, each}

-- the item at i is read next
pub each-drop : {A : Type 0} (f : ℕ → Data → Read A) (so_far : List A) (vs : List Value) (i : ℕ) (v : Value) → i < length vs → v ≡ get_or vs i v
    → each f so_far (items_view (drop i vs)) ≡ (f (length so_far) (view v) >>= (λ x. each f (so_far ++ x ∷ []) (items_view (drop (i + 1) vs))))
each-drop f so_far vs i v h e = rw (items_view-drop vs i v h, ← e)

pub ruleset steps = each-drop
