-- One line more, one move more, and that a report has one board.
use Rattle.std.proofs.Common.{◌≡◌, ℕ, ◌+◌, List, [], ◌∷◌, ◌++◌, length, take, drop, fold, slice_get, Some, codes, inl, inr, refl, sym, ap, ◌∙◌, subst, append_assoc, add-one}
use Rattle.std.proofs.lemmas.Grind.{fold-append}
use Rattle.std.proofs.lemmas.List.{take_more, drop_more}
use Rattle.std.proofs.lemmas.Option.{slice_get_within, get_or_from_slice_get}
use Rattle.rl_model.specs.declared.moves.Move.{Move}
use Rattle.rl_model.specs.declared.network.NetworkPlan.{NetworkPlan}
use Rattle.rl_model.specs.declared.report.Report.{Report}
use Rattle.rl_model.specs.Moves.{Guards, AllHold, FirstFails, after, guard, done}
use Rattle.rl_model.specs.Safety.{GuardedFrom, world_after}
use Rattle.rl_model.specs.World.{World, start}
use Rattle.rl_board.specs.Below.{join_below}
use Rattle.rl_board.specs.BoardText.{world_at, counts_text, start_line, after_line, segment_line, peak_line, IsPeak, IsBoardText}
use Rattle.rl_board.specs.Boards.{occupied_in}
use Rattle.rl_board.proofs.Peaks.{one_peak}

pub join_more : (f : ℕ → List ℕ) (n : ℕ) → join_below f (n + 1) ≡ join_below f n ++ f n
join_more f n = rw add-one refl

take_next : {A : Type 0} (xs : List A) (k : ℕ) (x : A) → slice_get xs k ≡ Some x → take (k + 1) xs ≡ take k xs ++ x ∷ []
take_next xs k x at =
    take_more xs k x (slice_get_within xs k x at) ∙ ap (λ y. take k xs ++ y ∷ []) (get_or_from_slice_get xs k x x at)

drop_next : {A : Type 0} (xs : List A) (k : ℕ) (x : A) → slice_get xs k ≡ Some x → drop k xs ≡ x ∷ drop (k + 1) xs
drop_next xs k x at =
    drop_more xs k x (slice_get_within xs k x at) ∙ ap (λ y. y ∷ drop (k + 1) xs) (get_or_from_slice_get xs k x x at)

pub world_next : (net : NetworkPlan) (moves : List Move) (k : ℕ) (m : Move) → slice_get moves k ≡ Some m
    → world_at net moves (k + 1) ≡ after (world_at net moves k) m
world_next net moves k m at = ap (λ ms. fold after (start net) ms) (take_next moves k m at) ∙ fold-append after (start net) (take k moves) (m ∷ [])

-- the guards of the next move hold, and those of the moves behind it in the world that it leaves
pub guards_next : (net : NetworkPlan) (w : World) (moves : List Move) (k : ℕ) (m : Move) → slice_get moves k ≡ Some m → GuardedFrom net w (drop k moves)
    → GuardedFrom net w (m ∷ drop (k + 1) moves)
guards_next net w moves k m at guarded = subst (GuardedFrom net w) (drop_next moves k m at) guarded

-- not all guards hold where one fails first
pub none_fails : (gs : Guards) (n : ℕ) → AllHold gs → FirstFails n gs → ⊥
none_fails done n all fails = fails
none_fails (guard k holds rest) n all (inl here) = here.1 all.0
none_fails (guard k holds rest) n all (inr later) = none_fails rest n all.1 later.1

pub one_text : (net : NetworkPlan) (report : Report) (text other : List ℕ) → IsBoardText net report text → IsBoardText net report other → text ≡ other
one_text net report text other one two =
    let same = one_peak (λ k. occupied_in net (world_at net report.moves k)) (length report.moves) one.peak two.peak one.place two.place one.peak_is two.peak_is in
    let f : ℕ → ℕ → List ℕ = λ p a. codes "relis board 1\n" ++ start_line net
    ++ join_below (after_line net report.moves) (length report.moves)
    ++ join_below (segment_line net (world_after net report.moves)) (length net.segments)
    ++ peak_line p a
    ++ codes "end\n" in
    one.text_is ∙ ap (λ p. f p one.place) same.0 ∙ ap (λ a. f two.peak a) same.1 ∙ sym two.text_is

-- the text with the line of one move more
pub text_next : (f : ℕ → List ℕ) (k : ℕ) (all out new a b c : List ℕ) → new ≡ out ++ a ++ b ++ c → a ++ b ++ c ≡ f k → out ≡ all ++ join_below f k
    → new ≡ all ++ join_below f (k + 1)
text_next f k all out new a b c appended line before =
    appended ∙ ap (λ x. x ++ c) (append_assoc out a b) ∙ append_assoc out (a ++ b) c ∙ ap (λ x. out ++ x) line ∙ ap (λ x. x ++ f k) before
    ∙ append_assoc all (join_below f k) (f k) ∙ ap (λ x. all ++ x) (sym (join_more f k))

whole_text : (net : NetworkPlan) (report : Report) (w0 w1 : World) (peak place : ℕ) (o0 o1 o2 o3 o4 o5 o6 : List ℕ) → w0 ≡ start net
    → w1 ≡ world_after net report.moves → o0 ≡ [] → o1 ≡ o0 ++ codes "relis board 1\nstart" → o2 ≡ o1 ++ counts_text net w0
    → o3 ≡ o2 ++ join_below (after_line net report.moves) (length report.moves) → o4 ≡ o3 ++ join_below (segment_line net w1) (length net.segments)
    → o5 ≡ o4 ++ peak_line peak place → o6 ≡ o5 ++ codes "end\n"
    → IsPeak (λ k. occupied_in net (world_at net report.moves k)) (length report.moves) peak place → IsBoardText net report o6
whole_text net report w0 w1 peak place o0 o1 o2 o3 o4 o5 o6 at_start at_end e0 e1 e2 e3 e4 e5 e6 peak_is =
    let moves = join_below (after_line net report.moves) (length report.moves) in
    let segments = join_below (segment_line net (world_after net report.moves)) (length net.segments) in
    record {
      peak = peak;
      place = place;
      peak_is = peak_is;
      text_is = e6
          ∙ ap (λ o. o ++ codes "end\n")
          (e5
          ∙ ap (λ o. o ++ peak_line peak place)
          (e4
          ∙ ap (λ (w : World). o3 ++ join_below (segment_line net w) (length net.segments)) at_end
          ∙ ap (λ o. o ++ segments)
          (e3
          ∙ ap (λ o. o ++ moves)
          (e2
          ∙ ap (λ (w : World). o1 ++ counts_text net w) at_start
          ∙ ap (λ o. o ++ counts_text net (start net)) (e1 ∙ ap (λ o. o ++ codes "relis board 1\nstart") e0)))));
    }

-- the board of a report, put together
pub board_of : (net : NetworkPlan) (report : Report) (moves : List Move) (w0 w1 : World) (peak place : ℕ) (o0 o1 o2 o3 o4 o5 o6 : List ℕ)
    → moves ≡ report.moves → w0 ≡ start net
    → w1 ≡ world_after net moves → o0 ≡ [] → o1 ≡ o0 ++ codes "relis board 1\nstart" → o2 ≡ o1 ++ counts_text net w0
    → o3 ≡ o2 ++ join_below (after_line net moves) (length moves) → o4 ≡ o3 ++ join_below (segment_line net w1) (length net.segments)
    → o5 ≡ o4 ++ peak_line peak place → o6 ≡ o5 ++ codes "end\n"
    → IsPeak (λ k. occupied_in net (world_at net moves k)) (length moves) peak place → IsBoardText net report o6
board_of net report moves w0 w1 peak place o0 o1 o2 o3 o4 o5 o6 same at_start at_end e0 e1 e2 e3 e4 e5 e6 peak_is =
    subst (λ (ms : List Move). IsBoardText net (record report { moves = ms }) o6) same
    (whole_text net (record report { moves = moves }) w0 w1 peak place o0 o1 o2 o3 o4 o5 o6 at_start at_end e0 e1 e2 e3 e4 e5 e6 peak_is)
