-- Where the next line isn't as it must be, it is the first fault.
use Rattle.std.proofs.Common.{◌≡◌, ℕ, zero, suc, ◌+◌, ◌-◌, ◌<◌, ◌≤◌, List, [], ◌∷◌, ◌++◌, length, drop, flat_map, slice_get, Some, None, codes, decimal, refl, ap, sym, ◌∙◌, subst, append_assoc, length-append, arith}
use Rattle.std.proofs.lemmas.List.{length-map}
use Rattle.std.proofs.lemmas.Option.{same_Some}
use Rattle.rl_base.specs.Tries.{AreFewTries}
use Rattle.rl_base.specs.declared.limits.TheConstants.{MIN_TRIES}
use Rattle.rl_text.specs.Lines.{Line, Reading, lines_of, bytes_of}
use Rattle.rl_text.proofs.LinesLemmas.{flat_map-lines_of}
use Rattle.rl_model.specs.declared.network.NetworkPlan.{NetworkPlan}
use Rattle.rl_model.specs.declared.report.Fate.TheVariants.{Underway}
use Rattle.rl_model.specs.declared.report.Outcome.{Outcome}
use Rattle.rl_model.specs.declared.report.Report.{Report}
use Rattle.rl_model.specs.Network.{IsNetwork}
use Rattle.rl_model.specs.Reports.{IsReportOf}
use Rattle.rl_model.specs.ReportText.{report_text}
use Rattle.rl_report.specs.Words.{IsCount, outcome_words}
use Rattle.rl_report.specs.Grammar.{IsTextOf, BeginsReport, IsFirstFault, whole_line}
use Rattle.rl_report.specs.Reading.{head_line, tries_line, end_line, move_lines, train_lines, front_lines, next_text, HasNoMove, HasNoTrain, HasRead}
use Rattle.rl_report.proofs.LinesOf.{lines_of-report}
use Rattle.rl_report.proofs.Agreement.{Agree, move_or_end, no_move_from, trains_no_move, moves_agree, OthersAgree, trains_agree}

-- what stood in a list stands where it stood
within : {A : Type 0} (xs ys : List A) (i : ℕ) → i < length xs → slice_get (xs ++ ys) i ≡ slice_get xs i
within [] ys i h = absurd (omega arith)
within (x ∷ xs) ys zero h = refl
within (x ∷ xs) ys (suc i) h = within xs ys i (omega arith)

-- a train of which nothing was read yet
pub blanks : ℕ → List Outcome
blanks zero = []
blanks (suc n) = record { fate = Underway; made = 0; refused = 0 } ∷ blanks n

length-blanks : (n : ℕ) → length (blanks n) ≡ n
unfolding blanks
length-blanks zero = refl
length-blanks (suc n) = ap suc (length-blanks n)

pub counts_then : (n : ℕ) (outcomes : List Outcome) → ((j : ℕ) (o : Outcome) → slice_get outcomes j ≡ Some o → IsCount o.made × IsCount o.refused)
    → (j : ℕ) (o : Outcome) → slice_get (outcomes ++ blanks n) j ≡ Some o → IsCount o.made × IsCount o.refused
unfolding blanks
counts_then zero [] counts j o at = absurd (cc)
counts_then (suc n) [] counts zero o at =
    let is = same_Some _ o at in
    subst (λ (x : Outcome). IsCount x.made × IsCount x.refused) is (omega arith, omega arith)
counts_then (suc n) [] counts (suc j) o at = counts_then n [] counts j o at
counts_then n (p ∷ outcomes) counts zero o at = counts 0 o at
counts_then n (p ∷ outcomes) counts (suc j) o at = counts_then n outcomes (λ i x is. counts (suc i) x is) j o at

pub train_lines-append : (net : NetworkPlan) (t u : ℕ) (xs ys : List Outcome) → u ≡ t + length xs
    → train_lines net t (xs ++ ys) ≡ train_lines net t xs ++ train_lines net u ys
train_lines-append net t u [] ys at = let here : u ≡ t = omega arith in rw here refl
train_lines-append net t u (x ∷ xs) ys at = ap (λ lines. whole_line (outcome_words net t x) ∷ lines) (train_lines-append net (suc t) u xs ys (omega arith))

-- a report that goes on with trains that have done nothing
completed : NetworkPlan → Report → Report
completed net x = record x { outcomes = x.outcomes ++ blanks (length net.trains - length x.outcomes) }

completed_of : (net : NetworkPlan) (text : List ℕ) (x : Report) (reading : Reading) → HasRead net text x reading → IsReportOf net (completed net x)
unfolding completed
completed_of net text x reading read =
    let few = read.trains in
    record {
      some_tries = read.some_tries;
      few_tries = read.few_tries;
      moves = read.moves;
      trains = rw (length-append, length-blanks) (omega arith);
      outcomes = counts_then (length net.trains - length x.outcomes) x.outcomes read.outcomes;
    }

front_completed : (net : NetworkPlan) (x : Report)
    → front_lines net (completed net x) ≡ front_lines net x ++ train_lines net (length x.outcomes) (blanks (length net.trains - length x.outcomes))
unfolding completed
front_completed net x =
    ap (λ lines. head_line ∷ tries_line x.tries ∷ lines)
    (ap (λ lines. move_lines net x.moves ++ lines)
    (train_lines-append net 0 (length x.outcomes) x.outcomes (blanks (length net.trains - length x.outcomes)) (omega arith))
    ∙ sym (append_assoc (move_lines net x.moves) (train_lines net 0 x.outcomes)
    (train_lines net (length x.outcomes) (blanks (length net.trains - length x.outcomes)))))

-- a report begins with what was read of one
begins_read : (net : NetworkPlan) (text : List ℕ) (x : Report) (reading : Reading) (k : ℕ) → IsNetwork net → HasRead net text x reading
    → k ≤ length (front_lines net x) → BeginsReport net text k
begins_read net text x reading k network read low =
    let of = completed_of net text x reading read in
    let more = train_lines net (length x.outcomes) (blanks (length net.trains - length x.outcomes)) in
    let lines : lines_of (report_text net (completed net x)) ≡ front_lines net x ++ (more ++ end_line ∷ []) =
    lines_of-report net (completed net x) network of ∙ ap (λ front. front ++ end_line ∷ []) (front_completed net x)
    ∙ append_assoc (front_lines net x) more (end_line ∷ []) in
    record {
      report = completed net x;
      of = of;
      same = λ i h.
          let here = within (front_lines net x) reading.left i (omega arith) in
          let there = within (front_lines net x) (more ++ end_line ∷ []) i (omega arith) in
          ap (λ ls. slice_get ls i) read.lines ∙ here ∙ sym there ∙ ap (λ ls. slice_get ls i) (sym lines);
    }

length-train_lines : (net : NetworkPlan) (t : ℕ) (xs : List Outcome) → length (train_lines net t xs) ≡ length xs
length-train_lines net t [] = refl
length-train_lines net t (x ∷ xs) = ap suc (length-train_lines net (suc t) xs)

pub length-front : (net : NetworkPlan) (x : Report) → length (front_lines net x) ≡ length x.moves + length x.outcomes + 2
length-front net x =
    let moves : length (move_lines net x.moves) ≡ length x.moves = simp length-map in
    let trains = length-train_lines net 0 x.outcomes in
    let both = length-append (move_lines net x.moves) (train_lines net 0 x.outcomes) in
    omega (arith, moves, trains, both)

-- how many lines were read
pub given_is : (net : NetworkPlan) (text : List ℕ) (x : Report) (reading : Reading) → HasRead net text x reading → reading.given ≡ length (front_lines net x)
given_is net text x reading read =
    let count = read.count in
    let lines = ap length read.lines in
    let both = length-append (front_lines net x) reading.left in
    omega (arith, count, lines, both)

shifted : (net : NetworkPlan) (x : Report) (rest : List Line) (i : ℕ)
    → slice_get (front_lines net x ++ rest) (suc (suc i)) ≡ slice_get (move_lines net x.moves ++ (train_lines net 0 x.outcomes ++ rest)) i
shifted net x rest i = ap (λ ls. slice_get ls i) (append_assoc (move_lines net x.moves) (train_lines net 0 x.outcomes) rest)

-- a report whose lines are the same, and k more, goes on with the trains that were not read
behind : (net : NetworkPlan) (text : List ℕ) (x : Report) (reading : Reading) (k : ℕ) → IsNetwork net → HasRead net text x reading → 0 < k
    → (x.outcomes ≡ [] → HasNoMove net reading.left)
    → (begins : BeginsReport net text (length (front_lines net x) + k))
    → OthersAgree net (length x.outcomes) (length x.outcomes) (length net.trains) k reading.left (end_line ∷ [])
behind net text x reading k network read some none begins =
    let r = begins.report in
    let few = read.trains in
    let trains = begins.of.trains in
    let long = length-front net x in
    let lines = lines_of-report net r network begins.of in
    let same : Agree (length x.moves + (length x.outcomes + k)) (move_lines net x.moves ++ (train_lines net 0 x.outcomes ++ reading.left))
    (move_lines net r.moves ++ (train_lines net 0 r.outcomes ++ end_line ∷ [])) =
    λ i h.
    sym (shifted net x reading.left i) ∙ ap (λ ls. slice_get ls (suc (suc i))) (sym read.lines)
    ∙ begins.same (suc (suc i)) (omega arith)
    ∙ ap (λ ls. slice_get ls (suc (suc i))) lines ∙ shifted net r (end_line ∷ []) i in
    let none_read = trains_no_move net 0 x.outcomes reading.left network read.outcomes (λ e. no_move_from net reading.left (none e)) in
    let none_there = trains_no_move net 0 r.outcomes (end_line ∷ []) network begins.of.outcomes
    (λ e m of is. move_or_end net m network (sym (same_Some _ _ is))) in
    let rest = moves_agree net x.moves r.moves _ _ (length x.outcomes + k) (omega arith) read.moves begins.of.moves none_read none_there same in
    subst (λ n. OthersAgree net (length x.outcomes) (length x.outcomes) n k reading.left (end_line ∷ [])) trains
    (trains_agree net 0 (length x.outcomes) x.outcomes r.outcomes reading.left (end_line ∷ []) k (omega arith) (omega arith) begins.of.outcomes rest)

-- the text of a next line that is there
next_is : (left : List Line) (words : List (List ℕ)) → slice_get left 0 ≡ Some (whole_line words) → next_text left ≡ Some (whole_line words).text
next_is [] words e = absurd (cc)
next_is (l ∷ ls) words e = ap (λ (x : Line). next_text (x ∷ ls)) (same_Some l (whole_line words) e)

fault_from : (net : NetworkPlan) (text : List ℕ) (x : Report) (reading : Reading) (n : ℕ) → IsNetwork net → HasRead net text x reading → n ≡ reading.given + 1
    → (BeginsReport net text (length (front_lines net x) + 1) → ⊥)
    → IsFirstFault net text n
fault_from net text x reading n network read number none =
    let given = given_is net text x reading read in
    let one : length (front_lines net x) + 1 ≡ n = omega arith in
    record {
      before = begins_read net text x reading (n - 1) network read (omega arith);
      fault = subst (λ k. BeginsReport net text k → ⊥) one none;
    }

-- the next train's line isn't there
pub no_train_fault : (net : NetworkPlan) (text : List ℕ) (x : Report) (reading : Reading) (n t : ℕ) → IsNetwork net → HasRead net text x reading
    → n ≡ reading.given + 1
    → length x.outcomes ≡ t → t < length net.trains
    → (x.outcomes ≡ [] → HasNoMove net reading.left)
    → HasNoTrain net t reading.left
    → IsFirstFault net text n
no_train_fault net text x reading n t network read number at there none no_train =
    fault_from net text x reading n network read number
    (λ begins. let next = behind net text x reading 1 network read (omega arith) none begins in next_train next.others next.counted next.counts next.same)
  where
    next_train : (others : List Outcome) → length x.outcomes + length others ≡ length net.trains
        → ((j : ℕ) (o : Outcome) → slice_get others j ≡ Some o → IsCount o.made × IsCount o.refused)
        → Agree 1 reading.left (train_lines net (length x.outcomes) others ++ end_line ∷ []) → ⊥
    next_train [] counted counts same = omega arith
    next_train (o ∷ others) counted counts same =
        let count = counts 0 o refl in
        no_train _ o (next_is reading.left (outcome_words net (length x.outcomes) o) (same 0 (omega arith)))
        (record { train = there; made = count.0; refused = count.1; line = rw at refl })

-- all trains' lines were read, and the end isn't there
pub no_end_fault : (net : NetworkPlan) (text : List ℕ) (x : Report) (reading : Reading) (n : ℕ) → IsNetwork net → HasRead net text x reading
    → n ≡ reading.given + 1
    → length x.outcomes ≡ length net.trains
    → (x.outcomes ≡ [] → HasNoMove net reading.left)
    → (next_text reading.left ≡ Some (codes "end") → ⊥)
    → IsFirstFault net text n
no_end_fault net text x reading n network read number all none no_end =
    fault_from net text x reading n network read number
    (λ begins. let next = behind net text x reading 1 network read (omega arith) none begins in the_end next.others next.counted next.same)
  where
    the_end : (others : List Outcome) → length x.outcomes + length others ≡ length net.trains
        → Agree 1 reading.left (train_lines net (length x.outcomes) others ++ end_line ∷ []) → ⊥
    the_end [] counted same = no_end (next_is reading.left (codes "end" ∷ []) (same 0 (omega arith)))
    the_end (o ∷ others) counted same = omega arith

-- a line stands behind the end
pub late_fault : (net : NetworkPlan) (text : List ℕ) (x : Report) (reading : Reading) (n : ℕ) (line : Line) (rest : List Line) → IsNetwork net
    → HasRead net text x reading
    → n ≡ reading.given + 2
    → length x.outcomes ≡ length net.trains
    → (x.outcomes ≡ [] → HasNoMove net reading.left)
    → reading.left ≡ end_line ∷ line ∷ rest
    → IsFirstFault net text n
late_fault net text x reading n line rest network read number all none left =
    let given = given_is net text x reading read in
    let two : length (front_lines net x) + 2 ≡ n = omega arith in
    record {
      before = before (n - 1) (omega arith);
      fault = subst (λ k. BeginsReport net text k → ⊥) two
          (λ begins. let next = behind net text x reading 2 network read (omega arith) none begins in no_more next.others next.counted next.same);
    }
  where
    no_more : (others : List Outcome) → length x.outcomes + length others ≡ length net.trains
        → Agree 2 reading.left (train_lines net (length x.outcomes) others ++ end_line ∷ []) → ⊥
    no_more [] counted same = let second : slice_get reading.left 1 ≡ None = same 1 (omega arith) in absurd (cc (ap (λ ls. slice_get ls 1) left))
    no_more (o ∷ others) counted same = omega arith

    whole : IsReportOf net x
    whole =
        record { some_tries = read.some_tries; few_tries = read.few_tries; moves = read.moves; trains = all; outcomes = read.outcomes }

    before : (k : ℕ) → k ≤ length (front_lines net x) + 1 → BeginsReport net text k
    before k low =
        record {
          report = x;
          of = whole;
          same = λ i h. the_same i h;
        }
      where
        the_same : (i : ℕ) → i < k → slice_get (lines_of text) i ≡ slice_get (lines_of (report_text net x)) i
        the_same i h =
            let front = front_lines net x in
            let long : length (front ++ end_line ∷ []) ≡ length front + 1 = length-append front (end_line ∷ []) in
            ap (λ ls. slice_get ls i) (read.lines ∙ ap (λ ls. front ++ ls) left ∙ sym (append_assoc front (end_line ∷ []) (line ∷ rest)))
            ∙ within (front ++ end_line ∷ []) (line ∷ rest) i (omega arith)
            ∙ ap (λ ls. slice_get ls i) (sym (lines_of-report net x network whole))

-- nothing stands behind the end
pub whole_text : (net : NetworkPlan) (text : List ℕ) (x : Report) (reading : Reading) → IsNetwork net → HasRead net text x reading
    → length x.outcomes ≡ length net.trains
    → reading.left ≡ end_line ∷ []
    → IsTextOf net x text
whole_text net text x reading network read all left =
    record {
      of = whole;
      spelled =
          sym (flat_map-lines_of text)
          ∙ ap (flat_map bytes_of) (read.lines ∙ ap (λ ls. front_lines net x ++ ls) left ∙ sym (lines_of-report net x network whole))
          ∙ flat_map-lines_of (report_text net x);
    }
  where
    whole : IsReportOf net x
    whole =
        record { some_tries = read.some_tries; few_tries = read.few_tries; moves = read.moves; trains = all; outcomes = read.outcomes }

-- the first two lines
begins_any : (net : NetworkPlan) (text : List ℕ) → BeginsReport net text 0
begins_any net text =
    record {
      report = record { tries = 1; moves = []; outcomes = blanks (length net.trains) };
      of = record {
        some_tries = omega arith;
        few_tries = omega arith;
        moves = λ k m at. absurd (cc);
        trains = length-blanks (length net.trains);
        outcomes = counts_then (length net.trains) [] (λ j o at. absurd (cc));
      };
      same = λ i h. absurd (omega arith);
    }

pub no_head_fault : (net : NetworkPlan) (text : List ℕ) → IsNetwork net → (next_text (lines_of text) ≡ Some (codes "relis report 1") → ⊥)
    → IsFirstFault net text 1
no_head_fault net text network none =
    record {
      before = begins_any net text;
      fault = λ begins.
          let lines = lines_of-report net begins.report network begins.of in
          none (next_is (lines_of text) (codes "relis report 1" ∷ []) (begins.same 0 (omega arith) ∙ ap (λ ls. slice_get ls 0) lines));
    }

-- a list without its first item
second : (lines : List Line) → slice_get (drop 1 lines) 0 ≡ slice_get lines 1
second [] = refl
second (l ∷ ls) = refl

pub no_tries_fault : (net : NetworkPlan) (text : List ℕ) → IsNetwork net → slice_get (lines_of text) 0 ≡ Some head_line
    → ((n : ℕ) → MIN_TRIES ≤ n → AreFewTries n → next_text (drop 1 (lines_of text)) ≡ Some (tries_line n).text → ⊥)
    → IsFirstFault net text 2
no_tries_fault net text network head none =
    let any = begins_any net text in
    record {
      before = record {
        report = any.report;
        of = any.of;
        same = λ i h.
            let lines = lines_of-report net any.report network any.of in
            let first : i ≡ 0 = omega arith in
            rw first (head ∙ ap (λ ls. slice_get ls 0) (sym lines));
      };
      fault = λ begins.
          let r = begins.report in
          let lines = lines_of-report net r network begins.of in
          none r.tries begins.of.some_tries begins.of.few_tries
          (next_is (drop 1 (lines_of text)) (codes "tries" ∷ decimal r.tries ∷ [])
          (second (lines_of text) ∙ begins.same 1 (omega arith) ∙ ap (λ ls. slice_get ls 1) lines));
    }
