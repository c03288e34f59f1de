-- How a draft stands in the table of a document.
use Rattle.std.specs.Prelude.{◌≡◌, ℕ, codes, Option, Some, None, option_map, List, [], ◌∷◌}
use Rattle.rl_base.specs.declared.draft.Draft.{Draft}
use Rattle.rl_base.specs.declared.draft.DraftBox.{DraftBox}
use Rattle.rl_base.specs.declared.draft.DraftTrain.{DraftTrain}
use Rattle.rl_base.specs.Kind.{kind_word, side_word}
use Rattle.toml.specs.Data.{Data, string, array, table, Items, no_items, item, Members, get_member}

-- the items of an array of texts
abbrev pub texts : List (List ℕ) → Items
texts [] = no_items
texts (t ∷ ts) = item (string t) (texts ts)

-- the table says this box
pub record SaysBox (m : Members) (b : DraftBox) : Type 0 where
  pub name : get_member (codes "name") m ≡ Some (string b.name)
  pub kind : get_member (codes "kind") m ≡ Some (string (kind_word b.kind))
  pub arms : get_member (codes "arms") m ≡ Some (array (texts b.arms))
  pub at : get_member (codes "at") m ≡ option_map (λ side. string (side_word side)) b.at

-- the table says this train
pub record SaysTrain (m : Members) (t : DraftTrain) : Type 0 where
  pub name : get_member (codes "name") m ≡ Some (string t.name)
  pub route : get_member (codes "route") m ≡ Some (array (texts t.route))

-- the items are tables that say these, one each
abbrev pub SayEach : {A : Type 0} → (Members → A → Type 0) → Items → List A → Type 0
SayEach Says no_items [] = Unit {0}
SayEach Says no_items (x ∷ xs) = ⊥
SayEach Says (item d ds) [] = ⊥
SayEach Says (item (table m) ds) (x ∷ xs) = Says m x × SayEach Says ds xs
SayEach Says (item _ ds) (x ∷ xs) = ⊥

-- what stands at a key is an array of such items, or is left out where there are none
abbrev pub HasItems : (Items → Type 0) → Option Data → Type 0
HasItems Fit None = Fit no_items
HasItems Fit (Some (array ds)) = Fit ds
HasItems Fit (Some _) = ⊥

-- the table says this draft
pub record SaysDraft (m : Members) (d : Draft) : Type 0 where
  pub segments : HasItems (λ ds. ds ≡ texts d.segments) (get_member (codes "segments") m)
  pub boxes : HasItems (λ ds. SayEach SaysBox ds d.boxes) (get_member (codes "box") m)
  pub trains : HasItems (λ ds. SayEach SaysTrain ds d.trains) (get_member (codes "train") m)
