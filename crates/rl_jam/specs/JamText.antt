-- The text of jams, line by line: how many there are, and of each its number, its length and who waits for whom.
use Rattle.std.specs.Prelude.{ℕ, suc, List, [], ◌∷◌, ◌++◌, length, codes, decimal, flat_map}
use Rattle.rl_model.specs.declared.network.NetworkPlan.{NetworkPlan}
use Rattle.rl_model.specs.Network.{train_name}
use Rattle.rl_model.specs.ReportText.{line_of}
use Rattle.rl_jam.specs.declared.waits.WaitRow.{WaitRow}

abbrev pub wait_line : NetworkPlan → WaitRow → List ℕ
wait_line net row =
    line_of (codes "wait" ∷ train_name net row.t.0 ∷ train_name net row.u.0 ∷ decimal row.line ∷ [])

-- the lines of jam number n
abbrev pub jam_lines : NetworkPlan → ℕ → List WaitRow → List ℕ
jam_lines net n rows = line_of (codes "jam" ∷ decimal n ∷ decimal (length rows) ∷ []) ++ flat_map (wait_line net) rows

-- the lines of the jams from number n on
abbrev pub jams_lines : NetworkPlan → ℕ → List (List WaitRow) → List ℕ
jams_lines net n [] = []
jams_lines net n (rows ∷ jams) = jam_lines net n rows ++ jams_lines net (suc n) jams

abbrev pub jam_text : NetworkPlan → List (List WaitRow) → List ℕ
jam_text net jams = line_of (codes "jams" ∷ decimal (length jams) ∷ []) ++ jams_lines net 1 jams ++ codes "end\n"
