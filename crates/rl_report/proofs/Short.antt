-- The text of a report with no more moves than it may have isn't too long.
use Rattle.std.proofs.Common.{◌≡◌, ℕ, suc, ◌+◌, ◌*◌, ◌≤◌, List, [], ◌∷◌, ◌++◌, length, flat_map, slice_get, Option, Some, None, codes, decimal, IsTrue, inl, inr, refl, ap, sym, ◌∙◌, append_assoc, length-append, arith}
use Rattle.std.specs.List.{join_with_byte}
use Rattle.std.specs.Option.{option_map_or}
use Rattle.std.proofs.lemmas.Bool.Decides.{nat_tests}
use Rattle.std.proofs.lemmas.Fmt.{length-decimal-le}
use Rattle.std.proofs.lemmas.Option.{same_Some}
use Rattle.rl_base.specs.Name.{is_name}
use Rattle.rl_base.specs.declared.kind.Side.{Side}
use Rattle.rl_base.specs.declared.kind.Side.TheVariants.{Left, Right}
use Rattle.rl_text.specs.Lines.{Line, lines_of, longest_text}
use Rattle.rl_model.specs.declared.moves.Move.{Move}
use Rattle.rl_model.specs.declared.moves.Move.TheVariants.{Reserve, Release, Lock, Unlock, Throw, Settle, Enter, Leave, Refuse, Bar}
use Rattle.rl_model.specs.declared.network.Segment.{Segment}
use Rattle.rl_model.specs.declared.network.SwitchBox.{SwitchBox}
use Rattle.rl_model.specs.declared.network.Train.{Train}
use Rattle.rl_model.specs.declared.network.NetworkPlan.{NetworkPlan}
use Rattle.rl_model.specs.declared.report.Fate.{Fate}
use Rattle.rl_model.specs.declared.report.Fate.TheVariants.{Arrived, Spent, Underway}
use Rattle.rl_model.specs.declared.report.Outcome.{Outcome}
use Rattle.rl_model.specs.declared.report.Report.{Report}
use Rattle.rl_model.specs.Network.{IsNetwork, segment_name, box_name, train_name}
use Rattle.rl_model.specs.Reports.{IsReportOf}
use Rattle.rl_base.specs.Kind.{side_word}
use Rattle.rl_model.specs.ReportText.{line_of, move_words, move_line, fate_word, outcome_line, outcome_lines, report_text}
use Rattle.rl_report.specs.Words.{IsCount, outcome_words}
use Rattle.rl_report.specs.Grammar.{IsTextOf, IsLong, most_moves, whole_line}
use Rattle.rl_report.specs.Reading.{end_line, move_lines, train_lines, front_lines}
use Rattle.rl_report.proofs.Agreement.{move_or_end, trains_no_move}
use Rattle.rl_report.proofs.LinesOf.{lines_of-report}
use Rattle.rl_report.proofs.Steps.{third}

-- the bytes of words, and one for each
abbrev weight : List (List ℕ) → ℕ
weight [] = 0
weight (w ∷ ws) = length w + 1 + weight ws

joined_short : (words : List (List ℕ)) → length (join_with_byte 32 words) ≤ weight words
joined_short [] = omega arith
joined_short (w ∷ []) = omega arith
joined_short (w ∷ v ∷ ws) =
    let rest = joined_short (v ∷ ws) in
    let both = length-append w (32 ∷ join_with_byte 32 (v ∷ ws)) in
    omega (arith, rest, both)

line_short : (words : List (List ℕ)) → length (line_of words) ≤ weight words + 1
line_short words =
    let joined = joined_short words in
    let both = length-append (join_with_byte 32 words) (10 ∷ []) in
    omega (arith, joined, both)

name_short : (name : List ℕ) → IsTrue (is_name name) → length name ≤ 16
name_short name h = grind (arith, nat_tests)

segment_short : (net : NetworkPlan) (i : ℕ) → IsNetwork net → length (segment_name net i) ≤ 16
segment_short net i network = from (slice_get net.segments i) refl
  where
    from : (o : Option Segment) → slice_get net.segments i ≡ o → length (option_map_or (λ (x : Segment). x.name) o []) ≤ 16
    from None e = omega arith
    from (Some x) e = name_short x.name (network.segments i x e).name

box_short : (net : NetworkPlan) (i : ℕ) → IsNetwork net → length (box_name net i) ≤ 16
box_short net i network = from (slice_get net.boxes i) refl
  where
    from : (o : Option SwitchBox) → slice_get net.boxes i ≡ o → length (option_map_or (λ (x : SwitchBox). x.name) o []) ≤ 16
    from None e = omega arith
    from (Some x) e = name_short x.name (network.boxes i x e).name

train_short : (net : NetworkPlan) (i : ℕ) → IsNetwork net → length (train_name net i) ≤ 16
train_short net i network = from (slice_get net.trains i) refl
  where
    from : (o : Option Train) → slice_get net.trains i ≡ o → length (option_map_or (λ (x : Train). x.name) o []) ≤ 16
    from None e = omega arith
    from (Some x) e = name_short x.name (network.trains i x e).name

side_short : (side : Side) → length (side_word side) ≤ 5
side_short Left = omega arith
side_short Right = omega arith

fate_short : (fate : Fate) → length (fate_word fate) ≤ 8
fate_short Arrived = omega arith
fate_short Spent = omega arith
fate_short Underway = omega arith

move_short : (net : NetworkPlan) (m : Move) → IsNetwork net → weight (move_words net m) ≤ 76
move_short net (Reserve t s b) h =
    let f0 = train_short net t.0 h in
    let f1 = segment_short net s.0 h in
    let f2 = box_short net b.0 h in
    omega (arith, f0, f1, f2)
move_short net (Release t s b) h =
    let f0 = train_short net t.0 h in
    let f1 = segment_short net s.0 h in
    let f2 = box_short net b.0 h in
    omega (arith, f0, f1, f2)
move_short net (Lock t b s s2) h =
    let f0 = train_short net t.0 h in
    let f1 = box_short net b.0 h in
    let f2 = segment_short net s.0 h in
    let f3 = segment_short net s2.0 h in
    omega (arith, f0, f1, f2, f3)
move_short net (Unlock t b) h =
    let f0 = train_short net t.0 h in
    let f1 = box_short net b.0 h in
    omega (arith, f0, f1)
move_short net (Throw b) h =
    let f0 = box_short net b.0 h in
    omega (arith, f0)
move_short net (Settle b side) h =
    let f0 = box_short net b.0 h in
    let f1 = side_short side in
    omega (arith, f0, f1)
move_short net (Enter t b s s2) h =
    let f0 = train_short net t.0 h in
    let f1 = box_short net b.0 h in
    let f2 = segment_short net s.0 h in
    let f3 = segment_short net s2.0 h in
    omega (arith, f0, f1, f2, f3)
move_short net (Leave t s) h =
    let f0 = train_short net t.0 h in
    let f1 = segment_short net s.0 h in
    omega (arith, f0, f1)
move_short net (Refuse t s b u) h =
    let f0 = train_short net t.0 h in
    let f1 = segment_short net s.0 h in
    let f2 = box_short net b.0 h in
    let f3 = train_short net u.0 h in
    omega (arith, f0, f1, f2, f3)
move_short net (Bar t b u) h =
    let f0 = train_short net t.0 h in
    let f1 = box_short net b.0 h in
    let f2 = train_short net u.0 h in
    omega (arith, f0, f1, f2)

moves_short : (net : NetworkPlan) (moves : List Move) → IsNetwork net → length (flat_map (move_line net) moves) ≤ 77 * length moves
moves_short net [] h = omega arith
moves_short net (m ∷ moves) h =
    let first = move_short net m h in
    let line = line_short (move_words net m) in
    let rest = moves_short net moves h in
    let both = length-append (move_line net m) (flat_map (move_line net) moves) in
    omega (arith, first, line, rest, both)

count_short : (n : ℕ) → IsCount n → length (decimal n) ≤ 7
count_short n h = length-decimal-le 7 n (omega arith) (omega arith) (omega arith)

outcome_short : (net : NetworkPlan) (t : ℕ) (o : Outcome) → IsNetwork net → IsCount o.made × IsCount o.refused → weight (outcome_words net t o) ≤ 48
outcome_short net t o h counts =
    let name = train_short net t h in
    let fate = fate_short o.fate in
    let made = count_short o.made counts.0 in
    let refused = count_short o.refused counts.1 in
    omega (arith, name, fate, made, refused)

trains_short : (net : NetworkPlan) (t : ℕ) (outcomes : List Outcome) → IsNetwork net
    → ((j : ℕ) (o : Outcome) → slice_get outcomes j ≡ Some o → IsCount o.made × IsCount o.refused)
    → length (outcome_lines net t outcomes) ≤ 49 * length outcomes
trains_short net t [] h counts = omega arith
trains_short net t (o ∷ outcomes) h counts =
    let first = outcome_short net t o h (counts 0 o refl) in
    let line = line_short (outcome_words net t o) in
    let rest = trains_short net (suc t) outcomes h (λ j p at. counts (suc j) p at) in
    let both = length-append (outcome_line net t o) (outcome_lines net (suc t) outcomes) in
    omega (arith, first, line, rest, both)

text_short : (net : NetworkPlan) (report : Report) → IsNetwork net → IsReportOf net report → length report.moves ≤ most_moves
    → length (report_text net report) ≤ longest_text
text_short net report h of few =
    let tries = length-decimal-le 4 report.tries (omega arith) (omega (arith, of.few_tries)) (omega (arith, of.few_tries)) in
    let second = line_short (codes "tries" ∷ decimal report.tries ∷ []) in
    let moves = moves_short net report.moves h in
    let trains = trains_short net 0 report.outcomes h of.outcomes in
    let count = of.trains in
    let network = h.few_trains in
    let one = length-append (codes "relis report 1\n") (line_of (codes "tries" ∷ decimal report.tries ∷ [])) in
    let two = length-append (codes "relis report 1\n" ++ line_of (codes "tries" ∷ decimal report.tries ∷ [])) (flat_map (move_line net) report.moves) in
    let three = length-append (codes "relis report 1\n" ++ line_of (codes "tries" ∷ decimal report.tries ∷ []) ++ flat_map (move_line net) report.moves)
    (outcome_lines net 0 report.outcomes) in
    let four = length-append
    (codes "relis report 1\n" ++ line_of (codes "tries" ∷ decimal report.tries ∷ []) ++ flat_map (move_line net) report.moves
    ++ outcome_lines net 0 report.outcomes) (codes "end\n") in
    omega (arith, tries, second, moves, trains, count, network, one, two, three, four, few)

behind_moves : (net : NetworkPlan) (moves : List Move) (rest : List Line) → slice_get (move_lines net moves ++ rest) (length moves) ≡ slice_get rest 0
behind_moves net [] rest = refl
behind_moves net (m ∷ moves) rest = behind_moves net moves rest

-- the text of such a report isn't too long
pub report_not_long : (net : NetworkPlan) (text : List ℕ) (report : Report) → IsNetwork net → IsTextOf net report text → length report.moves ≤ most_moves
    → IsLong net text → ⊥
report_not_long net text report h is few (inl large) =
    let short = text_short net report h is.of few in
    let same = ap length is.spelled in
    omega (arith, short, same, large)
report_not_long net text report h is few (inr each) =
    let at = each (length report.moves) (omega arith) in
    let lines = ap lines_of is.spelled ∙ lines_of-report net report h is.of in
    let rest = train_lines net 0 report.outcomes ++ end_line ∷ [] in
    let here : slice_get rest 0 ≡ Some (whole_line (move_words net at.0)) =
    sym (behind_moves net report.moves rest)
    ∙ ap (λ ls. slice_get ls (length report.moves)) (sym (append_assoc (move_lines net report.moves) (train_lines net 0 report.outcomes) (end_line ∷ [])))
    ∙ sym (third (front_lines net report ++ end_line ∷ []) (length report.moves))
    ∙ ap (λ ls. slice_get ls (length report.moves + 2)) (sym lines)
    ∙ at.2 in
    trains_no_move net 0 report.outcomes (end_line ∷ []) h is.of.outcomes (λ e m of end. move_or_end net m h (sym (same_Some _ _ end))) at.0 at.1 here
