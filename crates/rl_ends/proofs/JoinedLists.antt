-- The boxes of the draft that ends say, box by box.
use Rattle.std.proofs.Common.{◌≡◌, ℕ, zero, suc, List, [], ◌∷◌, ◌++◌, drop, take, slice_get, Some, sym, ap, ◌∙◌, append_assoc}
use Rattle.std.proofs.lemmas.Option.{none-some, same_Some}
use Rattle.rl_base.specs.declared.draft.DraftBox.{DraftBox}
use Rattle.rl_ends.specs.EndsDrafts.{joined_box, joined_boxes}
use Rattle.rl_ends.specs.declared.ends_draft.EndsBox.{EndsBox}
use Rattle.rl_ends.specs.declared.ends_draft.EndsDraft.{EndsDraft}

-- a list from the place of an item on
pub drop_item : {A : Type 0} (xs : List A) (i : ℕ) (x : A) → slice_get xs i ≡ Some x → drop i xs ≡ x ∷ drop (suc i) xs
drop_item [] i x e = absurd (none-some x e)
drop_item (y ∷ ys) zero x e = ap (λ z. z ∷ ys) (same_Some y x e)
drop_item (y ∷ ys) (suc i) x e = drop_item ys i x e

-- and up to and with the item
pub take_item : {A : Type 0} (xs : List A) (i : ℕ) (x : A) → slice_get xs i ≡ Some x → take (suc i) xs ≡ take i xs ++ x ∷ []
take_item [] i x e = absurd (none-some x e)
take_item (y ∷ ys) zero x e = ap (λ z. z ∷ []) (same_Some y x e)
take_item (y ∷ ys) (suc i) x e = ap (λ zs. y ∷ zs) (take_item ys i x e)

-- one box more is made
pub boxes_more : (d : EndsDraft) (b : ℕ) (x : EndsBox) (y : DraftBox) (made next all : List DraftBox) → slice_get d.boxes b ≡ Some x
    → made ++ joined_boxes d b (drop b d.boxes) ≡ all → y ≡ joined_box d b x → next ≡ made ++ y ∷ [] → next ++ joined_boxes d (suc b) (drop (suc b) d.boxes) ≡ all
boxes_more d b x y made next all there before is pushed =
    ap (λ (m : List DraftBox). m ++ joined_boxes d (suc b) (drop (suc b) d.boxes)) pushed
    ∙ (append_assoc made (y ∷ []) (joined_boxes d (suc b) (drop (suc b) d.boxes))
    ∙ (ap (λ (w : DraftBox). made ++ w ∷ joined_boxes d (suc b) (drop (suc b) d.boxes)) is
    ∙ (ap (λ (xs : List EndsBox). made ++ joined_boxes d b xs) (sym (drop_item d.boxes b x there)) ∙ before)))
