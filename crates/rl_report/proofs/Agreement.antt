-- A report whose first lines are those that were read has the same moves before it goes on.
use Rattle.std.proofs.Common.{◌≡◌, ◌≢◌, ℕ, suc, ◌+◌, ◌*◌, ◌<◌, ◌≤◌, List, [], ◌∷◌, ◌++◌, length, slice_get, slice_index, Some, codes, refl, ap, sym, ◌∙◌, arith}
use Rattle.std.proofs.lemmas.Option.{same_Some}
use Rattle.rl_text.specs.Lines.{Line}
use Rattle.rl_text.specs.Words.{words_of}
use Rattle.rl_model.specs.declared.moves.Move.{Move}
use Rattle.rl_model.specs.declared.network.NetworkPlan.{NetworkPlan}
use Rattle.rl_model.specs.declared.report.Outcome.{Outcome}
use Rattle.rl_model.specs.Moves.{IsMoveOf}
use Rattle.rl_model.specs.Network.{IsNetwork}
use Rattle.rl_model.specs.ReportText.{move_words}
use Rattle.rl_report.specs.declared.moves.MoveName.{MoveName}
use Rattle.rl_report.specs.declared.moves.MoveName.TheVariants as name
use Rattle.rl_report.specs.MoveNames.{name_word}
use Rattle.rl_report.specs.Words.{IsCount, outcome_words}
use Rattle.rl_report.specs.Grammar.{whole_line}
use Rattle.rl_report.specs.Reading.{end_line, move_lines, train_lines, next_text, HasNoMove}
use Rattle.rl_report.proofs.NamedMoves.{named}
use Rattle.rl_report.proofs.Plain.{plain_outcome, small_count}
use Rattle.rl_report.proofs.Joined.{words_of-joined}
use Rattle.rl_report.proofs.ReadLines.{words_of_move}

-- two lists of lines are the same at the first k places
abbrev pub Agree : ℕ → List Line → List Line → Type 0
Agree k xs ys = (i : ℕ) → i < k → slice_get xs i ≡ slice_get ys i

-- the next line, whether it is there or not, is that of no move
abbrev pub StartsWithNoMove : NetworkPlan → List Line → Type 0
StartsWithNoMove net lines = (m : Move) → IsMoveOf net m → slice_get lines 0 ≢ Some (whole_line (move_words net m))

-- the first and the third byte of a word, by which the first words of lines differ
abbrev key : List ℕ → ℕ
key word = slice_index word 0 * 256 + slice_index word 2

no_move_name : (n : MoveName) → name_word n ≢ codes "train"
no_move_name name.Reserve e = let keys = ap key e in omega arith
no_move_name name.Release e = let keys = ap key e in omega arith
no_move_name name.Lock e = let keys = ap key e in omega arith
no_move_name name.Unlock e = let keys = ap key e in omega arith
no_move_name name.Throw e = let keys = ap key e in omega arith
no_move_name name.Settle e = let keys = ap key e in omega arith
no_move_name name.Enter e = let keys = ap key e in omega arith
no_move_name name.Leave e = let keys = ap key e in omega arith
no_move_name name.Refuse e = let keys = ap key e in omega arith
no_move_name name.Bar e = let keys = ap key e in omega arith

no_end_name : (n : MoveName) → name_word n ≢ codes "end"
no_end_name name.Reserve e = let keys = ap key e in omega arith
no_end_name name.Release e = let keys = ap key e in omega arith
no_end_name name.Lock e = let keys = ap key e in omega arith
no_end_name name.Unlock e = let keys = ap key e in omega arith
no_end_name name.Throw e = let keys = ap key e in omega arith
no_end_name name.Settle e = let keys = ap key e in omega arith
no_end_name name.Enter e = let keys = ap key e in omega arith
no_end_name name.Leave e = let keys = ap key e in omega arith
no_end_name name.Refuse e = let keys = ap key e in omega arith
no_end_name name.Bar e = let keys = ap key e in omega arith

-- a move's line is no train's
pub move_or_train : (net : NetworkPlan) (m : Move) (t : ℕ) (o : Outcome) → IsNetwork net → IsCount o.made → IsCount o.refused
    → whole_line (move_words net m) ≢ whole_line (outcome_words net t o)
move_or_train net m t o network made refused e =
    let is = named net m in
    let plain = plain_outcome net t o network (small_count o.made made) (small_count o.refused refused) in
    let same : move_words net m ≡ outcome_words net t o =
    sym (words_of_move net m network) ∙ ap (λ (l : Line). words_of l.text) e ∙ words_of-joined _ _ plain in
    let words = is.words in
    let first : name_word is.name ≡ codes "train" = cc in
    no_move_name is.name first

-- nor the end
pub move_or_end : (net : NetworkPlan) (m : Move) → IsNetwork net → whole_line (move_words net m) ≢ end_line
move_or_end net m network e =
    let is = named net m in
    let same : move_words net m ≡ codes "end" ∷ [] =
    sym (words_of_move net m network) ∙ ap (λ (l : Line). words_of l.text) e ∙ words_of-joined (codes "end") [] refl in
    let words = is.words in
    let first : name_word is.name ≡ codes "end" = cc in
    no_end_name is.name first

pub no_move_from : (net : NetworkPlan) (left : List Line) → HasNoMove net left → StartsWithNoMove net left
no_move_from net [] h m of e = cc
no_move_from net (l ∷ ls) h m of e =
    let line = same_Some l (whole_line (move_words net m)) e in
    h _ m (ap (λ (x : Line). next_text (x ∷ ls)) line) (record { of = of; line = refl })

-- the lines of trains, and the end, begin with no move
pub trains_no_move : (net : NetworkPlan) (t : ℕ) (outcomes : List Outcome) (rest : List Line) → IsNetwork net
    → ((k : ℕ) (o : Outcome) → slice_get outcomes k ≡ Some o → IsCount o.made × IsCount o.refused)
    → (outcomes ≡ [] → StartsWithNoMove net rest)
    → StartsWithNoMove net (train_lines net t outcomes ++ rest)
trains_no_move net t [] rest network counts none m of e = none refl m of e
trains_no_move net t (o ∷ outcomes) rest network counts none m of e =
    let here = counts 0 o refl in
    move_or_train net m t o network here.0 here.1 (sym (same_Some _ _ e))

-- what is the same behind the moves
pub moves_agree : (net : NetworkPlan) (read moves : List Move) (rest tail : List Line) (k : ℕ) → 0 < k
    → ((j : ℕ) (m : Move) → slice_get read j ≡ Some m → IsMoveOf net m)
    → ((j : ℕ) (m : Move) → slice_get moves j ≡ Some m → IsMoveOf net m)
    → StartsWithNoMove net rest → StartsWithNoMove net tail
    → Agree (length read + k) (move_lines net read ++ rest) (move_lines net moves ++ tail)
    → Agree k rest tail
moves_agree net [] [] rest tail k some of of2 none none2 same = λ i h. same i (omega arith)
moves_agree net [] (m ∷ moves) rest tail k some of of2 none none2 same = absurd (none m (of2 0 m refl) (same 0 (omega arith)))
moves_agree net (m ∷ read) [] rest tail k some of of2 none none2 same = absurd (none2 m (of 0 m refl) (sym (same 0 (omega arith))))
moves_agree net (m ∷ read) (m2 ∷ moves) rest tail k some of of2 none none2 same =
    moves_agree net read moves rest tail k some (λ j x at. of (suc j) x at) (λ j x at. of2 (suc j) x at) none none2 (λ i h. same (suc i) (omega arith))

-- what is the same behind some of the trains: the lines of the others come next
pub record OthersAgree (net : NetworkPlan) (t given count k : ℕ) (rest tail : List Line) : Type 0 where
  pub others : List Outcome
  pub counted : given + length others ≡ count
  pub counts : (j : ℕ) (o : Outcome) → slice_get others j ≡ Some o → IsCount o.made × IsCount o.refused
  pub same : Agree k rest (train_lines net t others ++ tail)

pub trains_agree : (net : NetworkPlan) (t u : ℕ) (read outcomes : List Outcome) (rest tail : List Line) (k : ℕ)
    → length read ≤ length outcomes
    → u ≡ t + length read
    → ((j : ℕ) (o : Outcome) → slice_get outcomes j ≡ Some o → IsCount o.made × IsCount o.refused)
    → Agree (length read + k) (train_lines net t read ++ rest) (train_lines net t outcomes ++ tail)
    → OthersAgree net u (length read) (length outcomes) k rest tail
trains_agree net t u [] outcomes rest tail k few at counts same =
    let here : u ≡ t = omega arith in
    record {
      others = outcomes;
      counted = omega arith;
      counts = counts;
      same = rw here (λ i h. same i (omega arith));
    }
trains_agree net t u (o ∷ read) [] rest tail k few at counts same = absurd (omega arith)
trains_agree net t u (o ∷ read) (o2 ∷ outcomes) rest tail k few at counts same =
    let from = trains_agree net (suc t) u read outcomes rest tail k (omega arith) (omega arith) (λ j x is. counts (suc j) x is)
    (λ i h. same (suc i) (omega arith)) in
    let count = from.counted in
    record { others = from.others; counted = omega arith; counts = from.counts; same = from.same }
