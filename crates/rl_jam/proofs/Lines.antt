-- The lines of one jam more.
use Rattle.std.proofs.Common.{◌≡◌, ℕ, suc, ◌+◌, List, ◌∷◌, ◌++◌, drop, slice_get, Some, sym, ap, ◌∙◌, append_assoc, arith}
use Rattle.std.proofs.lemmas.List.{drop_more}
use Rattle.std.proofs.lemmas.Option.{slice_get_within, get_or_from_slice_get}
use Rattle.rl_model.specs.declared.network.NetworkPlan.{NetworkPlan}
use Rattle.rl_jam.specs.declared.waits.WaitRow.{WaitRow}
use Rattle.rl_jam.specs.JamText.{jam_lines, jams_lines}

drop_next : {A : Type 0} (xs : List A) (k : ℕ) (x : A) → slice_get xs k ≡ Some x → drop k xs ≡ x ∷ drop (k + 1) xs
drop_next xs k x at =
    drop_more xs k x (slice_get_within xs k x at) ∙ ap (λ y. y ∷ drop (k + 1) xs) (get_or_from_slice_get xs k x x at)

pub jams_step : (net : NetworkPlan) (jams : List (List WaitRow)) (i : ℕ) (rows : List WaitRow) (out new all : List ℕ) → slice_get jams i ≡ Some rows
    → new ≡ out ++ jam_lines net (i + 1) rows → out ++ jams_lines net (i + 1) (drop i jams) ≡ all
    → new ++ jams_lines net (i + 1 + 1) (drop (i + 1) jams) ≡ all
jams_step net jams i rows out new all at is before =
    let rest = jams_lines net (i + 1 + 1) (drop (i + 1) jams) in
    let after : suc (i + 1) ≡ i + 1 + 1 = omega arith in
    ap (λ o. o ++ rest) is ∙ append_assoc out (jam_lines net (i + 1) rows) rest
    ∙ ap (λ (n : ℕ). out ++ (jam_lines net (i + 1) rows ++ jams_lines net n (drop (i + 1) jams))) (sym after)
    ∙ ap (λ (js : List (List WaitRow)). out ++ jams_lines net (i + 1) js) (sym (drop_next jams i rows at)) ∙ before
