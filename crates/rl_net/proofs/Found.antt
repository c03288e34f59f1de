-- What a look-up by name finds among things that have names.
use Rattle.std.proofs.Common.{◌≡◌, ◌≢◌, ℕ, ◌<◌, List, [], length, map, slice_get, Some, None, is_some, sym, ap, ◌∙◌}
use Rattle.std.specs.Option.{option_map_or}
use Rattle.std.proofs.lemmas.Bool.{false≢true}
use Rattle.std.proofs.lemmas.Option.{slice_get_within}
use Rattle.rl_drafts.specs.Drafts.{number_in}
use Rattle.rl_drafts.proofs.Lookups.{mapped_item, item_mapped, item_within}
use Rattle.rl_drafts.proofs.Numbers.{number_in-item, is_among-item}

-- the thing at the number that is found has the name
pub named_at : {X : Type 0} (f : X → List ℕ) (xs : List X) (q : List ℕ) (k : ℕ) → number_in (map f xs) q ≡ Some k
    → (k < length xs) × (option_map_or f (slice_get xs k) [] ≡ q)
named_at f xs q k e =
    let x = mapped_item f xs k q (number_in-item (map f xs) q k e) in
    (slice_get_within xs k x.0 x.1, ap (λ o. option_map_or f o []) x.1 ∙ x.2)

-- where none is found nothing has the name
pub named_nowhere : {X : Type 0} (f : X → List ℕ) (xs : List X) (q : List ℕ) → number_in (map f xs) q ≡ None → (k : ℕ) → k < length xs
    → option_map_or f (slice_get xs k) [] ≢ q
named_nowhere f xs q e k within h =
    let x = item_within xs k within in
    let named : f x.0 ≡ q = sym (ap (λ o. option_map_or f o []) x.1) ∙ h in
    let there = is_among-item (map f xs) q k (item_mapped f xs k x.0 x.1 ∙ ap Some named) in
    false≢true (sym (ap is_some e) ∙ there)

-- the same by the table of the names
pub table_at : {X : Type 0} (f : X → List ℕ) (xs : List X) (names : List (List ℕ)) (q : List ℕ) (k : ℕ) → names ≡ map f xs → Some k ≡ number_in names q
    → (k < length xs) × (option_map_or f (slice_get xs k) [] ≡ q)
table_at f xs names q k same e = named_at f xs q k (ap (λ ns. number_in ns q) (sym same) ∙ sym e)

pub table_nowhere : {X : Type 0} (f : X → List ℕ) (xs : List X) (names : List (List ℕ)) (q : List ℕ) → names ≡ map f xs → None ≡ number_in names q → (k : ℕ)
    → k < length xs → option_map_or f (slice_get xs k) [] ≢ q
table_nowhere f xs names q same e = named_nowhere f xs q (ap (λ ns. number_in ns q) (sym same) ∙ sym e)
