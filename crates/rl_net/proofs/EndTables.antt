-- The ends of all segments in a table, one arm more.
use Rattle.std.proofs.Common.{◌≡◌, ◌≢◌, ℕ, ◌<◌, true, false, List, [], ◌∷◌, ◌++◌, slice_get, replicate, arith, Some, None, is_some, sym, ap, ◌∙◌, append-nil, bytes_eq, inl, inr}
use Rattle.std.proofs.lemmas.Bool.{false≢true, cases_eq, false_from_ne_true}
use Rattle.std.proofs.lemmas.List.{get_or-replicate, length-replicate}
use Rattle.std.proofs.lemmas.Option.{same_Some, slice_get-get_or}
use Rattle.rl_model.specs.declared.network.SegmentEnd.{SegmentEnd}
use Rattle.rl_drafts.specs.Drafts.{number_in, end_at}
use Rattle.rl_drafts.proofs.Numbers.{AreDistinct-from_twice, same_from_bytes_eq, bytes_eq_from_same, number_in-item, is_among-item}
use Rattle.rl_net.specs.declared.rule_10_ends.Ends.{Ends}
use Rattle.rl_net.specs.Ends.{ends_kept, Keeps}
use Rattle.rl_net.specs.NameTables.{AreUnlike}
use Rattle.rl_net.proofs.EndLists.{end_if}

-- an arm that names no segment adds nothing
pub keeps_none : (names : List (List ℕ)) (table : List Ends) (ends : List ℕ → List SegmentEnd) (b i : ℕ) (arm : List ℕ) → number_in names arm ≡ None
    → Keeps names table ends → Keeps names table (λ name. ends name ++ end_if (bytes_eq arm name) b i)
keeps_none names table ends b i arm none keeps s name there =
    let other : bytes_eq arm name ≡ false = false_from_ne_true (bytes_eq arm name) (λ e.
    let same = same_from_bytes_eq arm name e in
    let known = is_among-item names arm s (there ∙ ap Some (sym same)) in
    false≢true (sym (ap is_some none) ∙ known)) in
    rw other (keeps s name there ∙ ap (λ es. Some (ends_kept es)) (sym (append-nil (ends name))))

-- an arm that names a segment adds an end to that one
pub keeps_one : (names : List (List ℕ)) (old new : List Ends) (ends : List ℕ → List SegmentEnd) (b i k : ℕ) (arm : List ℕ) → AreUnlike names
    → number_in names arm ≡ Some k
    → ((es : List SegmentEnd) → slice_get old k ≡ Some (ends_kept es) → slice_get new k ≡ Some (ends_kept (es ++ end_at b i ∷ [])))
    → ((s : ℕ) → s ≢ k → slice_get new s ≡ slice_get old s)
    → Keeps names old ends → Keeps names new (λ name. ends name ++ end_if (bytes_eq arm name) b i)
keeps_one names old new ends b i k arm unlike number changed others keeps s name there =
    elim (cases_eq s k) [
      | inl here ↦
          (let at : slice_get names k ≡ Some name = rw (← here) there in
          let same : arm ≡ name = same_Some arm name (sym (number_in-item names arm k number) ∙ at) in
          let is : bytes_eq arm name ≡ true = bytes_eq_from_same arm name same in
          let kept : slice_get old k ≡ Some (ends_kept (ends name)) = rw (← here) (keeps s name there) in
          rw (is, here) (changed (ends name) kept))
      | inr away ↦
          (let other : bytes_eq arm name ≡ false = false_from_ne_true (bytes_eq arm name) (λ e.
          let same = same_from_bytes_eq arm name e in
          away ((AreDistinct-from_twice names unlike).same s k name there (number_in-item names arm k number ∙ ap Some same))) in
          rw other (others s away ∙ keeps s name there ∙ ap (λ es. Some (ends_kept es)) (sym (append-nil (ends name)))))
    ]

-- the same ends said in another way
pub keeps_same : (names : List (List ℕ)) (table : List Ends) (f g : List ℕ → List SegmentEnd) → ((name : List ℕ) → f name ≡ g name) → Keeps names table f
    → Keeps names table g
keeps_same names table f g same keeps s name there = keeps s name there ∙ ap (λ es. Some (ends_kept es)) (same name)

-- an item of a list that is one thing again and again
pub repeated : {A : Type 0} (n : ℕ) (x : A) (s : ℕ) → s < n → slice_get (replicate n x) s ≡ Some x
repeated n x s within =
    slice_get-get_or (replicate n x) s x (let count = length-replicate n x in omega arith) ∙ ap Some (get_or-replicate n s x x within)
