-- A text has one reading: as a move, as a train's line, and as a report.
use Rattle.std.proofs.Common.{◌≡◌, ℕ, suc, ◌+◌, ◌*◌, ◌-◌, ◌<◌, ◌≤◌, ◌^◌, List, [], ◌∷◌, ◌++◌, length, drop, slice_get, slice_index, get_or, Option, Some, None, decimal, refl, ap, sym, ◌∙◌, inl, inr, ◌⊎◌, append_assoc, arith}
use Rattle.std.specs.Str.Parse.{digits_value}
use Rattle.std.proofs.lemmas.Fmt.{digits_value-decimal}
use Rattle.std.proofs.lemmas.Option.{same_Some}
use Rattle.rl_base.specs.Tries.{AreFewTries}
use Rattle.rl_base.specs.declared.ids.SegId.{SegId}
use Rattle.rl_base.specs.declared.ids.BoxId.{BoxId}
use Rattle.rl_base.specs.declared.ids.TrainId.{TrainId}
use Rattle.rl_base.specs.declared.kind.Side.{Side}
use Rattle.rl_base.specs.declared.kind.Side.TheVariants.{Left, Right}
use Rattle.rl_text.specs.Lines.{Line, lines_of}
use Rattle.rl_text.specs.Words.{words_of}
use Rattle.rl_text.proofs.NumberLemmas.{digits_model}
use Rattle.rl_model.specs.declared.moves.Move.{Move}
use Rattle.rl_model.specs.declared.moves.Move.TheVariants.{Reserve, Release, Lock, Unlock, Throw, Settle, Enter, Leave, Refuse, Bar}
use Rattle.rl_model.specs.declared.network.Segment.{Segment}
use Rattle.rl_model.specs.declared.network.SwitchBox.{SwitchBox}
use Rattle.rl_model.specs.declared.network.NetworkPlan.{NetworkPlan}
use Rattle.rl_model.specs.declared.report.Fate.{Fate}
use Rattle.rl_model.specs.declared.report.Fate.TheVariants.{Arrived, Spent, Underway}
use Rattle.rl_model.specs.declared.report.Outcome.{Outcome}
use Rattle.rl_model.specs.declared.report.Report.{Report}
use Rattle.rl_model.specs.Moves.{IsMoveOf}
use Rattle.rl_model.specs.Network.{IsNetwork, segment_name, box_name, train_name}
use Rattle.rl_base.specs.Kind.{side_word}
use Rattle.rl_model.specs.ReportText.{move_words, fate_word}
use Rattle.rl_report.specs.declared.moves.MoveName.{MoveName}
use Rattle.rl_report.specs.declared.moves.MoveName.TheVariants as name
use Rattle.rl_report.specs.MoveNames.{name_word}
use Rattle.rl_report.specs.Words.{IsCount, outcome_words}
use Rattle.rl_report.specs.Grammar.{IsMoveLine, IsOutcomeLine, IsTextOf, BeginsReport, IsFirstFault, whole_line}
use Rattle.rl_report.specs.Reading.{end_line, move_lines, train_lines, front_lines, tries_line}
use Rattle.rl_report.proofs.Agreement.{StartsWithNoMove, move_or_end, move_or_train, trains_no_move}
use Rattle.rl_report.proofs.LinesOf.{lines_of-report}
use Rattle.rl_report.proofs.Plain.{plain_outcome, small_count}
use Rattle.rl_report.proofs.Joined.{words_of-joined}
use Rattle.rl_report.proofs.ReadLines.{same_train, one_train, tries_words, words_of_move, words_from_move_line, words_from_outcome_line}
use Rattle.rl_report.proofs.Within.{none_within}

train_is : (net : NetworkPlan) (t u : TrainId) → IsNetwork net → t.0 < length net.trains → u.0 < length net.trains → train_name net t.0 ≡ train_name net u.0
    → t ≡ u
train_is net t u network t_in u_in e = ap (λ (n : ℕ). let x : TrainId = record { 0 = n } in x) (same_train net t.0 u.0 network t_in u_in e)

segment_is : (net : NetworkPlan) (s r : SegId) → IsNetwork net → s.0 < length net.segments → r.0 < length net.segments
    → segment_name net s.0 ≡ segment_name net r.0 → s ≡ r
segment_is net s r network s_in r_in e =
    ap (λ (n : ℕ). let x : SegId = record { 0 = n } in x) (from (slice_get net.segments s.0) (slice_get net.segments r.0) refl refl)
  where
    from : (o p : Option Segment) → slice_get net.segments s.0 ≡ o → slice_get net.segments r.0 ≡ p → s.0 ≡ r.0
    from None p is is2 = absurd (none_within net.segments s.0 s_in is)
    from (Some g) None is is2 = absurd (none_within net.segments r.0 r_in is2)
    from (Some g) (Some h) is is2 =
        let first : segment_name net s.0 ≡ g.name = rw is refl in
        let other : segment_name net r.0 ≡ h.name = rw is2 refl in
        network.segment_names s.0 r.0 g h is is2 (sym first ∙ e ∙ other)

box_is : (net : NetworkPlan) (b c : BoxId) → IsNetwork net → b.0 < length net.boxes → c.0 < length net.boxes → box_name net b.0 ≡ box_name net c.0 → b ≡ c
box_is net b c network b_in c_in e = ap (λ (n : ℕ). let x : BoxId = record { 0 = n } in x) (from (slice_get net.boxes b.0) (slice_get net.boxes c.0) refl refl)
  where
    from : (o p : Option SwitchBox) → slice_get net.boxes b.0 ≡ o → slice_get net.boxes c.0 ≡ p → b.0 ≡ c.0
    from None p is is2 = absurd (none_within net.boxes b.0 b_in is)
    from (Some x) None is is2 = absurd (none_within net.boxes c.0 c_in is2)
    from (Some x) (Some y) is is2 =
        let first : box_name net b.0 ≡ x.name = rw is refl in
        let other : box_name net c.0 ≡ y.name = rw is2 refl in
        network.box_names b.0 c.0 x y is is2 (sym first ∙ e ∙ other)

-- the first and the third byte of a word
abbrev key : List ℕ → ℕ
key word = slice_index word 0 * 256 + slice_index word 2

side_is : (side other : Side) → side_word side ≡ side_word other → side ≡ other
side_is Left Left e = refl
side_is Left Right e = let keys = ap key e in absurd (omega arith)
side_is Right Left e = let keys = ap key e in absurd (omega arith)
side_is Right Right e = refl

fate_is : (fate other : Fate) → fate_word fate ≡ fate_word other → fate ≡ other
fate_is Arrived Arrived e = refl
fate_is Arrived _ e = let keys = ap key e in absurd (omega arith)
fate_is Spent Spent e = refl
fate_is Spent _ e = let keys = ap key e in absurd (omega arith)
fate_is Underway Underway e = refl
fate_is Underway _ e = let keys = ap key e in absurd (omega arith)

decimal_is : (m n : ℕ) → m < 2 ^ 64 → n < 2 ^ 64 → decimal m ≡ decimal n → m ≡ n
decimal_is m n small small2 e = sym (digits_value-decimal digits_model m small) ∙ ap (digits_value 10) e ∙ digits_value-decimal digits_model n small2

name_is : (n other : MoveName) → name_word n ≡ name_word other → n ≡ other
name_is name.Reserve name.Reserve e = refl
name_is name.Reserve _ e = let keys = ap key e in absurd (omega arith)
name_is name.Release name.Release e = refl
name_is name.Release _ e = let keys = ap key e in absurd (omega arith)
name_is name.Lock name.Lock e = refl
name_is name.Lock _ e = let keys = ap key e in absurd (omega arith)
name_is name.Unlock name.Unlock e = refl
name_is name.Unlock _ e = let keys = ap key e in absurd (omega arith)
name_is name.Throw name.Throw e = refl
name_is name.Throw _ e = let keys = ap key e in absurd (omega arith)
name_is name.Settle name.Settle e = refl
name_is name.Settle _ e = let keys = ap key e in absurd (omega arith)
name_is name.Enter name.Enter e = refl
name_is name.Enter _ e = let keys = ap key e in absurd (omega arith)
name_is name.Leave name.Leave e = refl
name_is name.Leave _ e = let keys = ap key e in absurd (omega arith)
name_is name.Refuse name.Refuse e = refl
name_is name.Refuse _ e = let keys = ap key e in absurd (omega arith)
name_is name.Bar name.Bar e = refl
name_is name.Bar _ e = let keys = ap key e in absurd (omega arith)

name_of : Move → MoveName
name_of (Reserve t s b) = name.Reserve
name_of (Release t s b) = name.Release
name_of (Lock t b s s2) = name.Lock
name_of (Unlock t b) = name.Unlock
name_of (Throw b) = name.Throw
name_of (Settle b side) = name.Settle
name_of (Enter t b s s2) = name.Enter
name_of (Leave t s) = name.Leave
name_of (Refuse t s b u) = name.Refuse
name_of (Bar t b u) = name.Bar

first_word : (net : NetworkPlan) (m : Move) → get_or (move_words net m) 0 [] ≡ name_word (name_of m)
unfolding name_of
first_word net (Reserve t s b) = refl
first_word net (Release t s b) = refl
first_word net (Lock t b s s2) = refl
first_word net (Unlock t b) = refl
first_word net (Throw b) = refl
first_word net (Settle b side) = refl
first_word net (Enter t b s s2) = refl
first_word net (Leave t s) = refl
first_word net (Refuse t s b u) = refl
first_word net (Bar t b u) = refl

-- moves of one name and the same words are one move
same_move : (net : NetworkPlan) (m n : Move) → IsNetwork net → IsMoveOf net m → IsMoveOf net n → name_of m ≡ name_of n → move_words net m ≡ move_words net n
    → m ≡ n
unfolding name_of
same_move net (Reserve t s b) (Reserve tx sx bx) network of of2 names e =
    let e0 = train_is net t tx network of.0 of2.0 (ap (λ ws. get_or ws 1 []) e) in
    let e1 = segment_is net s sx network of.1 of2.1 (ap (λ ws. get_or ws 2 []) e) in
    let e2 = box_is net b bx network of.2 of2.2 (ap (λ ws. get_or ws 3 []) e) in
    cc
same_move net (Reserve t s b) _ network of of2 names e = absurd (cc)
same_move net (Release t s b) (Release tx sx bx) network of of2 names e =
    let e0 = train_is net t tx network of.0 of2.0 (ap (λ ws. get_or ws 1 []) e) in
    let e1 = segment_is net s sx network of.1 of2.1 (ap (λ ws. get_or ws 2 []) e) in
    let e2 = box_is net b bx network of.2 of2.2 (ap (λ ws. get_or ws 3 []) e) in
    cc
same_move net (Release t s b) _ network of of2 names e = absurd (cc)
same_move net (Lock t b s s2) (Lock tx bx sx s2x) network of of2 names e =
    let e0 = train_is net t tx network of.0 of2.0 (ap (λ ws. get_or ws 1 []) e) in
    let e1 = box_is net b bx network of.1 of2.1 (ap (λ ws. get_or ws 2 []) e) in
    let e2 = segment_is net s sx network of.2 of2.2 (ap (λ ws. get_or ws 3 []) e) in
    let e3 = segment_is net s2 s2x network of.3 of2.3 (ap (λ ws. get_or ws 4 []) e) in
    cc
same_move net (Lock t b s s2) _ network of of2 names e = absurd (cc)
same_move net (Unlock t b) (Unlock tx bx) network of of2 names e =
    let e0 = train_is net t tx network of.0 of2.0 (ap (λ ws. get_or ws 1 []) e) in
    let e1 = box_is net b bx network of.1 of2.1 (ap (λ ws. get_or ws 2 []) e) in
    cc
same_move net (Unlock t b) _ network of of2 names e = absurd (cc)
same_move net (Throw b) (Throw bx) network of of2 names e =
    let e0 = box_is net b bx network of of2 (ap (λ ws. get_or ws 1 []) e) in
    cc
same_move net (Throw b) _ network of of2 names e = absurd (cc)
same_move net (Settle b side) (Settle bx sidex) network of of2 names e =
    let e0 = box_is net b bx network of of2 (ap (λ ws. get_or ws 1 []) e) in
    let e1 = side_is side sidex (ap (λ ws. get_or ws 2 []) e) in
    cc
same_move net (Settle b side) _ network of of2 names e = absurd (cc)
same_move net (Enter t b s s2) (Enter tx bx sx s2x) network of of2 names e =
    let e0 = train_is net t tx network of.0 of2.0 (ap (λ ws. get_or ws 1 []) e) in
    let e1 = box_is net b bx network of.1 of2.1 (ap (λ ws. get_or ws 2 []) e) in
    let e2 = segment_is net s sx network of.2 of2.2 (ap (λ ws. get_or ws 3 []) e) in
    let e3 = segment_is net s2 s2x network of.3 of2.3 (ap (λ ws. get_or ws 4 []) e) in
    cc
same_move net (Enter t b s s2) _ network of of2 names e = absurd (cc)
same_move net (Leave t s) (Leave tx sx) network of of2 names e =
    let e0 = train_is net t tx network of.0 of2.0 (ap (λ ws. get_or ws 1 []) e) in
    let e1 = segment_is net s sx network of.1 of2.1 (ap (λ ws. get_or ws 2 []) e) in
    cc
same_move net (Leave t s) _ network of of2 names e = absurd (cc)
same_move net (Refuse t s b u) (Refuse tx sx bx ux) network of of2 names e =
    let e0 = train_is net t tx network of.0 of2.0 (ap (λ ws. get_or ws 1 []) e) in
    let e1 = segment_is net s sx network of.1 of2.1 (ap (λ ws. get_or ws 2 []) e) in
    let e2 = box_is net b bx network of.2 of2.2 (ap (λ ws. get_or ws 3 []) e) in
    let e3 = train_is net u ux network of.3 of2.3 (ap (λ ws. get_or ws 4 []) e) in
    cc
same_move net (Refuse t s b u) _ network of of2 names e = absurd (cc)
same_move net (Bar t b u) (Bar tx bx ux) network of of2 names e =
    let e0 = train_is net t tx network of.0 of2.0 (ap (λ ws. get_or ws 1 []) e) in
    let e1 = box_is net b bx network of.1 of2.1 (ap (λ ws. get_or ws 2 []) e) in
    let e2 = train_is net u ux network of.2 of2.2 (ap (λ ws. get_or ws 3 []) e) in
    cc
same_move net (Bar t b u) _ network of of2 names e = absurd (cc)

-- the words of a move are no other's
one_move : (net : NetworkPlan) (m n : Move) → IsNetwork net → IsMoveOf net m → IsMoveOf net n → move_words net m ≡ move_words net n → m ≡ n
one_move net m n network of of2 e =
    same_move net m n network of of2 (name_is (name_of m) (name_of n) (sym (first_word net m) ∙ ap (λ ws. get_or ws 0 []) e ∙ first_word net n)) e

pub one_move_line : (net : NetworkPlan) (text : List ℕ) (m n : Move) → IsNetwork net → IsMoveLine net text m → IsMoveLine net text n → m ≡ n
one_move_line net text m n network is is2 =
    one_move net m n network is.of is2.of (sym (words_from_move_line net text m network is) ∙ words_from_move_line net text n network is2)

one_outcome : (net : NetworkPlan) (t : ℕ) (o p : Outcome) → IsCount o.made → IsCount o.refused → IsCount p.made → IsCount p.refused
    → outcome_words net t o ≡ outcome_words net t p → o ≡ p
one_outcome net t o p made refused made2 refused2 e =
    let fates = fate_is o.fate p.fate (ap (λ ws. get_or ws 2 []) e) in
    let mades = decimal_is o.made p.made (small_count o.made made) (small_count p.made made2) (ap (λ ws. get_or ws 3 []) e) in
    let refusals = decimal_is o.refused p.refused (small_count o.refused refused) (small_count p.refused refused2) (ap (λ ws. get_or ws 4 []) e) in
    ap (λ (f : Fate). let x : Outcome = record { fate = f; made = o.made; refused = o.refused } in x) fates
    ∙ ap (λ (n : ℕ). let x : Outcome = record { fate = p.fate; made = n; refused = o.refused } in x) mades
    ∙ ap (λ (n : ℕ). let x : Outcome = record { fate = p.fate; made = p.made; refused = n } in x) refusals

pub one_outcome_line : (net : NetworkPlan) (text : List ℕ) (t u : ℕ) (o p : Outcome) → IsNetwork net → IsOutcomeLine net text t o → IsOutcomeLine net text u p
    → (t ≡ u) × (o ≡ p)
one_outcome_line net text t u o p network is is2 =
    let train = one_train net text t u o p network is is2 in
    let words : outcome_words net t o ≡ outcome_words net t p =
    sym (words_from_outcome_line net text t o network is) ∙ words_from_outcome_line net text u p network is2 ∙ ap (λ n. outcome_words net n p) (sym train) in
    (train, one_outcome net t o p is.made is.refused is2.made is2.refused words)

-- lines that are the same have the same words
same_words : (net : NetworkPlan) (m n : Move) → IsNetwork net → whole_line (move_words net m) ≡ whole_line (move_words net n)
    → move_words net m ≡ move_words net n
same_words net m n network e = sym (words_of_move net m network) ∙ ap (λ (l : Line). words_of l.text) e ∙ words_of_move net n network

same_outcome_words : (net : NetworkPlan) (t : ℕ) (o p : Outcome) → IsNetwork net → IsCount o.made × IsCount o.refused → IsCount p.made × IsCount p.refused
    → whole_line (outcome_words net t o) ≡ whole_line (outcome_words net t p) → outcome_words net t o ≡ outcome_words net t p
same_outcome_words net t o p network counts counts2 e =
    sym (words_of-joined _ _ (plain_outcome net t o network (small_count o.made counts.0) (small_count o.refused counts.1)))
    ∙ ap (λ (l : Line). words_of l.text) e
    ∙ words_of-joined _ _ (plain_outcome net t p network (small_count p.made counts2.0) (small_count p.refused counts2.1))

-- the same lines have the same moves, and the same rest
record SameMoves (moves others : List Move) (rest tail : List Line) : Type 0 where
  moves_are : moves ≡ others
  rest_is : rest ≡ tail

moves_same : (net : NetworkPlan) (moves others : List Move) (rest tail : List Line) → IsNetwork net
    → ((j : ℕ) (m : Move) → slice_get moves j ≡ Some m → IsMoveOf net m) → ((j : ℕ) (m : Move) → slice_get others j ≡ Some m → IsMoveOf net m)
    → StartsWithNoMove net rest → StartsWithNoMove net tail → move_lines net moves ++ rest ≡ move_lines net others ++ tail → SameMoves moves others rest tail
moves_same net [] [] rest tail network of of2 none none2 e = record { moves_are = refl; rest_is = e }
moves_same net [] (n ∷ others) rest tail network of of2 none none2 e = absurd (none n (of2 0 n refl) (ap (λ ls. slice_get ls 0) e))
moves_same net (m ∷ moves) [] rest tail network of of2 none none2 e = absurd (none2 m (of 0 m refl) (ap (λ ls. slice_get ls 0) (sym e)))
moves_same net (m ∷ moves) (n ∷ others) rest tail network of of2 none none2 e =
    let first = one_move net m n network (of 0 m refl) (of2 0 n refl) (same_words net m n network (same_Some _ _ (ap (λ ls. slice_get ls 0) e))) in
    let later = moves_same net moves others rest tail network (λ j x at. of (suc j) x at) (λ j x at. of2 (suc j) x at) none none2
    (ap (λ (ls : List Line). drop 1 ls) e) in
    record { moves_are = ap (λ x. x ∷ moves) first ∙ ap (λ xs. n ∷ xs) later.moves_are; rest_is = later.rest_is }

trains_same : (net : NetworkPlan) (t : ℕ) (outcomes others : List Outcome) (rest tail : List Line) → IsNetwork net
    → ((j : ℕ) (o : Outcome) → slice_get outcomes j ≡ Some o → IsCount o.made × IsCount o.refused)
    → ((j : ℕ) (o : Outcome) → slice_get others j ≡ Some o → IsCount o.made × IsCount o.refused)
    → length outcomes ≡ length others → train_lines net t outcomes ++ rest ≡ train_lines net t others ++ tail → outcomes ≡ others
trains_same net t [] [] rest tail network counts counts2 long e = refl
trains_same net t [] (p ∷ others) rest tail network counts counts2 long e = absurd (omega arith)
trains_same net t (o ∷ outcomes) [] rest tail network counts counts2 long e = absurd (omega arith)
trains_same net t (o ∷ outcomes) (p ∷ others) rest tail network counts counts2 long e =
    let here = counts 0 o refl in
    let here2 = counts2 0 p refl in
    let first = one_outcome net t o p here.0 here.1 here2.0 here2.1
    (same_outcome_words net t o p network here here2 (same_Some _ _ (ap (λ ls. slice_get ls 0) e))) in
    let later = trains_same net (suc t) outcomes others rest tail network (λ j x at. counts (suc j) x at) (λ j x at. counts2 (suc j) x at) (omega arith)
    (ap (λ (ls : List Line). drop 1 ls) e) in
    ap (λ x. x ∷ outcomes) first ∙ ap (λ xs. p ∷ xs) later

tries_same : (m n : ℕ) → AreFewTries m → AreFewTries n → tries_line m ≡ tries_line n → m ≡ n
tries_same m n small_m small_n e =
    decimal_is m n (omega arith) (omega arith)
    (ap (λ ws. get_or ws 1 []) (sym (tries_words m small_m) ∙ ap (λ (l : Line). words_of l.text) e ∙ tries_words n small_n))

-- a text is that of one report
pub one_report : (net : NetworkPlan) (text : List ℕ) (r q : Report) → IsNetwork net → IsTextOf net r text → IsTextOf net q text → r ≡ q
one_report net text r q network is is2 =
    let lines : front_lines net r ++ end_line ∷ [] ≡ front_lines net q ++ end_line ∷ [] =
    sym (lines_of-report net r network is.of) ∙ ap lines_of (sym is.spelled ∙ is2.spelled) ∙ lines_of-report net q network is2.of in
    let count = is.of.trains in
    let count2 = is2.of.trains in
    let tries = tries_same r.tries q.tries is.of.few_tries is2.of.few_tries (same_Some _ _ (ap (λ ls. slice_get ls 1) lines)) in
    let behind : move_lines net r.moves ++ (train_lines net 0 r.outcomes ++ end_line ∷ []) ≡ move_lines net q.moves
    ++ (train_lines net 0 q.outcomes ++ end_line ∷ []) =
    sym (append_assoc (move_lines net r.moves) (train_lines net 0 r.outcomes) (end_line ∷ []))
    ∙ ap (λ (ls : List Line). drop 2 ls) lines
    ∙ append_assoc (move_lines net q.moves) (train_lines net 0 q.outcomes) (end_line ∷ []) in
    let no_end = λ (m : Move) (of : IsMoveOf net m) (at : slice_get (end_line ∷ []) 0 ≡ Some (whole_line (move_words net m))). move_or_end net m network
    (sym (same_Some _ _ at)) in
    let same = moves_same net r.moves q.moves _ _ network is.of.moves is2.of.moves
    (trains_no_move net 0 r.outcomes (end_line ∷ []) network is.of.outcomes (λ e. no_end))
    (trains_no_move net 0 q.outcomes (end_line ∷ []) network is2.of.outcomes (λ e. no_end)) behind in
    let outcomes = trains_same net 0 r.outcomes q.outcomes _ _ network is.of.outcomes is2.of.outcomes (omega arith) same.rest_is in
    ap (λ (n : ℕ). let x : Report = record { tries = n; moves = r.moves; outcomes = r.outcomes } in x) tries
    ∙ ap (λ (ms : List Move). let x : Report = record { tries = q.tries; moves = ms; outcomes = r.outcomes } in x) same.moves_are
    ∙ ap (λ (os : List Outcome). let x : Report = record { tries = q.tries; moves = q.moves; outcomes = os } in x) outcomes

-- the text of a report has no fault, and any text has one first fault at most
pub no_fault : (net : NetworkPlan) (text : List ℕ) (r : Report) (n : ℕ) → IsTextOf net r text → IsFirstFault net text n → ⊥
no_fault net text r n is fault = fault.fault (record { report = r; of = is.of; same = λ i h. ap (λ t. slice_get (lines_of t) i) is.spelled })

begins_less : (net : NetworkPlan) (text : List ℕ) (j k : ℕ) → j ≤ k → BeginsReport net text k → BeginsReport net text j
begins_less net text j k low begins = record { report = begins.report; of = begins.of; same = λ i h. begins.same i (omega arith) }

pub one_fault : (net : NetworkPlan) (text : List ℕ) (n k : ℕ) → IsFirstFault net text n → IsFirstFault net text k → n ≡ k
one_fault net text n k first other =
    elim (order n k) [
      | inl same ↦ same
      | inr (inl less) ↦ absurd (first.fault (begins_less net text n (k - 1) (omega arith) other.before))
      | inr (inr more) ↦ absurd (other.fault (begins_less net text k (n - 1) (omega arith) first.before))
    ]
  where
    order : (a b : ℕ) → (a ≡ b) ⊎ ((a < b) ⊎ (b < a))
    order a b = grind arith

pub move_apart : (net : NetworkPlan) (text : List ℕ) (m : Move) (t : ℕ) (o : Outcome) → IsNetwork net → IsMoveLine net text m → IsOutcomeLine net text t o → ⊥
move_apart net text m t o network is is2 =
    move_or_train net m t o network is2.made is2.refused
    (ap (λ (ws : List (List ℕ)). whole_line ws) (sym (words_from_move_line net text m network is) ∙ words_from_outcome_line net text t o network is2))
