-- The lines of a report's text.
use Rattle.std.proofs.Common.{◌≡◌, ◌==◌, ℕ, suc, ◌<◌, Bool, true, false, List, [], ◌∷◌, ◌++◌, length, flat_map, slice_get, Some, codes, decimal, refl, ap, sym, ◌∙◌, append_assoc, lit≤, arith}
use Rattle.std.specs.List.{slice_split, join_with_byte, All}
use Rattle.std.proofs.lemmas.List.Splits.{slice_split_at, length-slice_split}
use Rattle.rl_base.specs.Tries.{AreFewTries}
use Rattle.rl_text.specs.Lines.{lines_of, lines_of_parts}
use Rattle.rl_model.specs.declared.moves.Move.{Move}
use Rattle.rl_model.specs.declared.network.NetworkPlan.{NetworkPlan}
use Rattle.rl_model.specs.declared.report.Outcome.{Outcome}
use Rattle.rl_model.specs.declared.report.Report.{Report}
use Rattle.rl_model.specs.Network.{IsNetwork}
use Rattle.rl_model.specs.Reports.{IsReportOf}
use Rattle.rl_model.specs.ReportText.{line_of, move_words, move_line, outcome_line, outcome_lines, report_text}
use Rattle.rl_report.specs.Words.{IsCount, outcome_words}
use Rattle.rl_report.specs.Grammar.{whole_line}
use Rattle.rl_report.specs.Reading.{head_line, end_line, move_lines, train_lines, front_lines}
use Rattle.rl_report.proofs.Plain.{are_plain, plain_move, plain_outcome, plain_decimal, small_count, no_lf_in_joined, not_in_above}

abbrev is_lf : ℕ → Bool
is_lf b = b == 10

parts_cons : (part : List ℕ) (parts : List (List ℕ)) → 0 < length parts
    → lines_of_parts (part ∷ parts) ≡ record { text = part; whole = true } ∷ lines_of_parts parts
parts_cons part [] h = absurd (omega arith)
parts_cons part (next ∷ parts) h = refl

-- bytes without LF, and LF, are a line
lines_of-line : (text rest : List ℕ) → All (λ b. is_lf b ≡ false) text → lines_of (text ++ 10 ∷ rest) ≡ record { text = text; whole = true } ∷ lines_of rest
lines_of-line text rest h =
    ap lines_of_parts (slice_split_at is_lf text 10 rest h refl)
    ∙ parts_cons text (slice_split is_lf rest) (omega (arith, length-slice_split is_lf rest))

pub lines_of-words : (words : List (List ℕ)) (rest : List ℕ) → are_plain words ≡ true → lines_of (line_of words ++ rest) ≡ whole_line words ∷ lines_of rest
lines_of-words words rest h =
    ap lines_of (append_assoc (join_with_byte 32 words) (10 ∷ []) rest) ∙ lines_of-line (join_with_byte 32 words) rest (no_lf_in_joined words h)

-- the lines of the moves
lines_of-moves : (net : NetworkPlan) (moves : List Move) (rest : List ℕ) → IsNetwork net
    → lines_of (flat_map (move_line net) moves ++ rest) ≡ move_lines net moves ++ lines_of rest
lines_of-moves net [] rest network = refl
lines_of-moves net (m ∷ moves) rest network =
    ap lines_of (append_assoc (move_line net m) (flat_map (move_line net) moves) rest)
    ∙ lines_of-words (move_words net m) (flat_map (move_line net) moves ++ rest) (plain_move net m network)
    ∙ ap (λ lines. whole_line (move_words net m) ∷ lines) (lines_of-moves net moves rest network)

-- the lines of the trains
lines_of-trains : (net : NetworkPlan) (t : ℕ) (outcomes : List Outcome) (rest : List ℕ) → IsNetwork net
    → ((k : ℕ) (o : Outcome) → slice_get outcomes k ≡ Some o → IsCount o.made × IsCount o.refused)
    → lines_of (outcome_lines net t outcomes ++ rest) ≡ train_lines net t outcomes ++ lines_of rest
lines_of-trains net t [] rest network counts = refl
lines_of-trains net t (o ∷ outcomes) rest network counts =
    let here = counts 0 o refl in
    ap lines_of (append_assoc (outcome_line net t o) (outcome_lines net (suc t) outcomes) rest)
    ∙ lines_of-words (outcome_words net t o) (outcome_lines net (suc t) outcomes ++ rest)
    (plain_outcome net t o network (small_count o.made here.0) (small_count o.refused here.1))
    ∙ ap (λ lines. whole_line (outcome_words net t o) ∷ lines) (lines_of-trains net (suc t) outcomes rest network (λ k p at. counts (suc k) p at))

lines_of-head : (rest : List ℕ) → lines_of (codes "relis report 1\n" ++ rest) ≡ head_line ∷ lines_of rest
lines_of-head rest = lines_of-line (codes "relis report 1") rest (not_in_above 10 10 (codes "relis report 1") (lit≤ tt) refl)

plain_tries : (n : ℕ) → AreFewTries n → are_plain (codes "tries" ∷ decimal n ∷ []) ≡ true
plain_tries n h = rw (plain_decimal n (small_count n (omega arith))) refl

regroup : (a b c d e : List ℕ) → (((a ++ b) ++ c) ++ d) ++ e ≡ a ++ (b ++ (c ++ (d ++ e)))
regroup a b c d e = simp append_assoc

-- the lines of a report's text are the front lines and the end
pub lines_of-report : (net : NetworkPlan) (report : Report) → IsNetwork net → IsReportOf net report
    → lines_of (report_text net report) ≡ front_lines net report ++ end_line ∷ []
lines_of-report net report network of =
    let tries = codes "tries" ∷ decimal report.tries ∷ [] in
    let moves = flat_map (move_line net) report.moves in
    let trains = outcome_lines net 0 report.outcomes in
    ap lines_of (regroup (codes "relis report 1\n") (line_of tries) moves trains (codes "end\n"))
    ∙ lines_of-head (line_of tries ++ (moves ++ (trains ++ codes "end\n")))
    ∙ ap (λ lines. head_line ∷ lines)
    (lines_of-words tries (moves ++ (trains ++ codes "end\n")) (plain_tries report.tries of.few_tries)
    ∙ ap (λ lines. whole_line tries ∷ lines)
    (lines_of-moves net report.moves (trains ++ codes "end\n") network
    ∙ ap (λ lines. move_lines net report.moves ++ lines)
    (lines_of-trains net 0 report.outcomes (codes "end\n") network of.outcomes ∙ ap (λ lines. train_lines net 0 report.outcomes ++ lines) the_end)
    ∙ sym (append_assoc (move_lines net report.moves) (train_lines net 0 report.outcomes) (end_line ∷ []))))
  where
    the_end : lines_of (codes "end\n") ≡ end_line ∷ []
    the_end = refl
