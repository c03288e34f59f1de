-- One line more was read.
use Rattle.std.proofs.Common.{◌≡◌, ℕ, zero, suc, ◌+◌, ◌<◌, ◌≤◌, Bool, true, false, List, [], ◌∷◌, ◌++◌, length, drop, slice_get, Some, None, codes, refl, ap, sym, ◌∙◌, subst, append_assoc, append-nil, length-append, arith, if◌then◌else◌, inl, inr}
use Rattle.std.specs.List.{join_with_byte}
use Rattle.std.proofs.lemmas.List.{append_cancel_right, map-append}
use Rattle.std.proofs.lemmas.Option.{same_Some}
use Rattle.rl_base.specs.Tries.{AreFewTries}
use Rattle.rl_base.specs.declared.limits.TheConstants.{MIN_TRIES}
use Rattle.rl_text.specs.Lines.{Line, Reading, lines_of, longest_text}
use Rattle.rl_model.specs.declared.moves.Move.{Move}
use Rattle.rl_model.specs.declared.network.NetworkPlan.{NetworkPlan}
use Rattle.rl_model.specs.declared.report.Outcome.{Outcome}
use Rattle.rl_model.specs.declared.report.Report.{Report}
use Rattle.rl_model.specs.Moves.{IsMoveOf}
use Rattle.rl_model.specs.ReportText.{move_words}
use Rattle.rl_report.specs.Words.{IsCount, outcome_words}
use Rattle.rl_report.proofs.Agreement.{no_move_from}
use Rattle.rl_report.proofs.Faults.{train_lines-append}
use Rattle.std.proofs.lemmas.Grind.{common_steps}
use Rattle.rl_report.specs.Grammar.{IsMoveLine, IsOutcomeLine, IsLong, most_moves, whole_line}
use Rattle.rl_report.specs.Reading.{head_line, tries_line, end_line, move_lines, train_lines, front_lines, next_text, HasNoMove, HasMoves, HasRead}

-- what holds of each item holds of one more
pub one_more : {A : Type 0} (P : A → Type 0) (xs : List A) (y : A) → ((k : ℕ) (x : A) → slice_get xs k ≡ Some x → P x) → P y
    → (k : ℕ) (x : A) → slice_get (xs ++ y ∷ []) k ≡ Some x → P x
one_more P [] y each here zero x at = subst P (same_Some y x at) here
one_more P [] y each here (suc k) x at = absurd (cc)
one_more P (z ∷ zs) y each here zero x at = each 0 x at
one_more P (z ∷ zs) y each here (suc k) x at = one_more P zs y (λ j w is. each (suc j) w is) here k x at

line_is : (l : Line) (text : List ℕ) → (if l.whole then Some l.text else None) ≡ Some text → l ≡ record { text = text; whole = true }
line_is l text e = by_whole l.whole refl
  where
    by_whole : (w : Bool) → l.whole ≡ w → l ≡ record { text = text; whole = true }
    by_whole true is =
        let same : l.text ≡ text = same_Some l.text text (rw is at e) in
        ap (λ w. record { text = l.text; whole = w }) is ∙ ap (λ t. record { text = t; whole = true }) same
    by_whole false is = absurd (cc (rw is at e))

-- the next line, where it is there
next_line : (left : List Line) (text : List ℕ) → next_text left ≡ Some text → left ≡ record { text = text; whole = true } ∷ drop 1 left
next_line [] text e = absurd (cc)
next_line (l ∷ ls) text e = ap (λ (x : Line). x ∷ ls) (line_is l text e)

move_is_next : (net : NetworkPlan) (left : List Line) (text : List ℕ) (m : Move) → next_text left ≡ Some text → IsMoveLine net text m
    → left ≡ whole_line (move_words net m) ∷ drop 1 left
move_is_next net left text m e is =
    next_line left text e ∙ ap (λ t. record { text = t; whole = true } ∷ drop 1 left)
    (append_cancel_right text (join_with_byte 32 (move_words net m)) (10 ∷ []) is.line)

-- a move more was read
pub move_step : (net : NetworkPlan) (text line : List ℕ) (moves : List Move) (m : Move) (old new : Reading)
    → next_text old.left ≡ Some line → IsMoveLine net line m → new.left ≡ drop 1 old.left → new.given + length new.left ≡ old.given + length old.left
    → HasMoves net text moves old → HasMoves net text (moves ++ m ∷ []) new
move_step net text line moves m old new next is left count read =
    let before = read.count in
    record {
      of = one_more (IsMoveOf net) moves m read.of is.of;
      lines = read.lines
          ∙ ap (λ ls. move_lines net moves ++ ls) (move_is_next net old.left line m next is ∙ ap (λ ls. whole_line (move_words net m) ∷ ls) (sym left))
          ∙ sym (append_assoc (move_lines net moves) (whole_line (move_words net m) ∷ []) new.left)
          ∙ ap (λ ls. ls ++ new.left) (sym (map-append _ moves (m ∷ [])));
      count = omega arith;
    }

-- a train more was read
pub train_step : (net : NetworkPlan) (text line : List ℕ) (x : Report) (t : ℕ) (o : Outcome) (old new : Reading)
    → next_text old.left ≡ Some line → IsOutcomeLine net line t o → new.left ≡ drop 1 old.left → new.given + length new.left ≡ old.given + length old.left
    → length x.outcomes ≡ t
    → HasRead net text x old → HasRead net text (record x { outcomes = x.outcomes ++ o ∷ [] }) new
train_step net text line x t o old new next is left count at read =
    let before = read.count in
    let there = is.train in
    let words : line ≡ join_with_byte 32 (outcome_words net t o) = append_cancel_right line (join_with_byte 32 (outcome_words net t o)) (10 ∷ []) is.line in
    let here : old.left ≡ train_lines net t (o ∷ []) ++ new.left =
    next_line old.left line next ∙ ap (λ w. record { text = w; whole = true } ∷ drop 1 old.left) words
    ∙ ap (λ ls. whole_line (outcome_words net t o) ∷ ls) (sym left) in
    record {
      some_tries = read.some_tries;
      few_tries = read.few_tries;
      moves = read.moves;
      outcomes = one_more (λ (p : Outcome). IsCount p.made × IsCount p.refused) x.outcomes o read.outcomes (is.made, is.refused);
      trains = rw length-append (omega arith);
      lines = read.lines
          ∙ ap (λ ls. front_lines net x ++ ls) here
          ∙ ap (λ ls. head_line ∷ tries_line x.tries ∷ ls)
          (append_assoc (move_lines net x.moves) (train_lines net 0 x.outcomes) (train_lines net t (o ∷ []) ++ new.left)
          ∙ ap (λ ls. move_lines net x.moves ++ ls)
          (sym (append_assoc (train_lines net 0 x.outcomes) (train_lines net t (o ∷ [])) new.left)
          ∙ ap (λ ls. ls ++ new.left) (sym (train_lines-append net 0 t x.outcomes (o ∷ []) (omega arith))))
          ∙ sym (append_assoc (move_lines net x.moves) (train_lines net 0 (x.outcomes ++ o ∷ [])) new.left));
      count = omega arith;
    }

-- behind the first two lines
pub head_step : (net : NetworkPlan) (text line : List ℕ) (moves : List Move) (tries : ℕ) (reading : Reading)
    → next_text (lines_of text) ≡ Some (codes "relis report 1")
    → next_text (drop 1 (lines_of text)) ≡ Some line → line ≡ (tries_line tries).text → MIN_TRIES ≤ tries → AreFewTries tries
    → HasMoves net text moves reading
    → HasRead net text (record { tries = tries; moves = moves; outcomes = [] }) reading
head_step net text line moves tries reading first next is some few read =
    record {
      some_tries = some;
      few_tries = few;
      moves = read.of;
      outcomes = λ t o at. absurd (cc);
      trains = omega arith;
      lines = next_line (lines_of text) (codes "relis report 1") first
          ∙ ap (λ ls. head_line ∷ ls)
          (next_line (drop 1 (lines_of text)) line next
          ∙ ap (λ w. record { text = w; whole = true } ∷ drop 1 (drop 1 (lines_of text))) is
          ∙ ap (λ ls. tries_line tries ∷ ls) (twice (lines_of text) ∙ read.lines ∙ ap (λ ls. ls ++ reading.left) (sym (append-nil (move_lines net moves)))));
      count = read.count;
    }
  where
    twice : (ls : List Line) → drop 1 (drop 1 ls) ≡ drop 2 ls
    twice [] = refl
    twice (l ∷ []) = refl
    twice (l ∷ l2 ∷ ls) = refl

pub third : (ls : List Line) (i : ℕ) → slice_get ls (i + 2) ≡ slice_get (drop 2 ls) i
third [] i = grind (arith, common_steps)
third (l ∷ []) i = grind (arith, common_steps)
third (l ∷ l2 ∷ ls) i = let e : i + 2 ≡ suc (suc i) = omega arith in rw e refl

move_at : (net : NetworkPlan) (moves : List Move) (rest : List Line) (i : ℕ) → i < length moves
    → (m : Move) × (slice_get moves i ≡ Some m) × (slice_get (move_lines net moves ++ rest) i ≡ Some (whole_line (move_words net m)))
move_at net [] rest i h = absurd (omega arith)
move_at net (m ∷ moves) rest zero h = (m, refl, refl)
move_at net (m ∷ moves) rest (suc i) h = move_at net moves rest i (omega arith)

-- too many moves were read
pub long_from_moves : (net : NetworkPlan) (text : List ℕ) (moves : List Move) (reading : Reading) → HasMoves net text moves reading → most_moves < length moves
    → IsLong net text
long_from_moves net text moves reading read many =
    inr (λ i h.
    let at = move_at net moves reading.left i (omega arith) in
    (at.0, read.of i at.0 at.1, third (lines_of text) i ∙ ap (λ ls. slice_get ls i) read.lines ∙ at.2))

-- as many as a report may have, and the next line is none
pub short_from_moves : (net : NetworkPlan) (text : List ℕ) (moves : List Move) (reading : Reading) → HasMoves net text moves reading → length moves ≤ most_moves
    → length text ≤ longest_text → HasNoMove net reading.left → IsLong net text → ⊥
short_from_moves net text moves reading read few small none (inl large) = omega arith
short_from_moves net text moves reading read few small none (inr each) =
    let at = each (length moves) (omega arith) in
    let here : slice_get reading.left 0 ≡ Some (whole_line (move_words net at.0)) =
    sym (behind_moves net moves reading.left) ∙ ap (λ ls. slice_get ls (length moves)) (sym read.lines) ∙ sym (third (lines_of text) (length moves)) ∙ at.2 in
    no_move_from net reading.left none at.0 at.1 here
  where
    behind_moves : (net : NetworkPlan) (ms : List Move) (rest : List Line) → slice_get (move_lines net ms ++ rest) (length ms) ≡ slice_get rest 0
    behind_moves net [] rest = refl
    behind_moves net (m ∷ ms) rest = behind_moves net ms rest

pub first_is : (left : List Line) (text : List ℕ) → next_text left ≡ Some text → slice_get left 0 ≡ Some (record { text = text; whole = true })
first_is left text e = ap (λ ls. slice_get ls 0) (next_line left text e)

-- only the end is left
pub end_is_left : (left after : List Line) → next_text left ≡ Some (codes "end") → after ≡ drop 1 left → after ≡ [] → left ≡ end_line ∷ []
end_is_left left after next is none = next_line left (codes "end") next ∙ ap (λ ls. end_line ∷ ls) (sym is ∙ none)

-- the end, and a line behind it
pub record GoesOn (left : List Line) : Type 0 where
  pub line : Line
  pub rest : List Line
  pub lines : left ≡ end_line ∷ line ∷ rest

pub goes_on : (left after : List Line) → next_text left ≡ Some (codes "end") → after ≡ drop 1 left → (after ≡ [] → ⊥) → GoesOn left
goes_on left [] next is some = absurd (some refl)
goes_on left (l ∷ ls) next is some = record { line = l; rest = ls; lines = next_line left (codes "end") next ∙ ap (λ rest. end_line ∷ rest) (sym is) }

-- the line after one that was passed
pub after_pass : (given more old left : ℕ) → given + more ≡ old + left → left ≡ more + 1 → given + 1 ≡ old + 2
after_pass given more old left count one = omega arith

-- behind the first two lines no move was read yet
pub no_moves_yet : (net : NetworkPlan) (text : List ℕ) (start reading : Reading) → start.given ≡ 0 → start.left ≡ lines_of text
    → reading.left ≡ drop 2 start.left
    → reading.given + length reading.left ≡ start.given + length start.left → HasMoves net text [] reading
no_moves_yet net text start reading given left behind count =
    let all = ap (λ (ls : List Line). length ls) left in
    record { of = λ k m at. absurd (cc); lines = ap (λ (ls : List Line). drop 2 ls) (sym left) ∙ sym behind; count = omega (arith, all, given, count) }
