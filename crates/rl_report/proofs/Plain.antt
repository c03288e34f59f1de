-- The words of a report's lines have neither a space nor an LF.
use Rattle.std.proofs.Common.{◌≡◌, ◌==◌, ℕ, ◌<◌, ◌≤◌, ◌^◌, Bool, true, false, nat_lt, List, [], ◌∷◌, Option, Some, None, slice_get, get_or, length, decimal, IsTrue, refl, arith}
use Rattle.std.specs.Char.{is_ascii_digit}
use Rattle.std.specs.List.{list_all, All, join_with_byte}
use Rattle.std.specs.Option.{option_map_or}
use Rattle.std.proofs.lemmas.Bool.Decides.{nat_tests}
use Rattle.std.proofs.lemmas.Fmt.{digits_decimal}
use Rattle.std.proofs.lemmas.Grind.{common_steps}
use Rattle.std.proofs.lemmas.List.Folds.{list_all_at, list_all-append}
use Rattle.rl_base.specs.Name.{is_name, is_name_byte}
use Rattle.rl_base.specs.declared.kind.Side.{Side}
use Rattle.rl_base.specs.declared.kind.Side.TheVariants.{Left, Right}
use Rattle.rl_text.proofs.NumberLemmas.{digits_model}
use Rattle.rl_model.specs.declared.moves.Move.{Move}
use Rattle.rl_model.specs.declared.moves.Move.TheVariants.{Reserve, Release, Lock, Unlock, Throw, Settle, Enter, Leave, Refuse, Bar}
use Rattle.rl_model.specs.declared.network.Segment.{Segment}
use Rattle.rl_model.specs.declared.network.SwitchBox.{SwitchBox}
use Rattle.rl_model.specs.declared.network.Train.{Train}
use Rattle.rl_model.specs.declared.network.NetworkPlan.{NetworkPlan}
use Rattle.rl_model.specs.declared.report.Fate.{Fate}
use Rattle.rl_model.specs.declared.report.Fate.TheVariants.{Arrived, Spent, Underway}
use Rattle.rl_model.specs.declared.report.Outcome.{Outcome}
use Rattle.rl_model.specs.Network.{IsNetwork, segment_name, box_name, train_name}
use Rattle.rl_base.specs.Kind.{side_word}
use Rattle.rl_model.specs.ReportText.{move_words, fate_word}
use Rattle.rl_report.specs.Words.{IsCount, outcome_words}

-- bytes above the space, and so above LF
abbrev pub is_plain : List ℕ → Bool
is_plain word = list_all (λ b. nat_lt 32 b) word

abbrev pub are_plain : List (List ℕ) → Bool
are_plain words = list_all is_plain words

by_byte : (test : ℕ → Bool) → ((b : ℕ) → test b ≡ true → nat_lt 32 b ≡ true) → (word : List ℕ) → list_all test word ≡ true → is_plain word ≡ true
by_byte test each [] h = refl
by_byte test each (b ∷ bs) h =
    let first : test b ≡ true = grind (arith, nat_tests) in
    let others : list_all test bs ≡ true = grind (arith, nat_tests) in
    let here = each b first in
    let there = by_byte test each bs others in
    rw (here, there) refl

name_byte : (b : ℕ) → is_name_byte b ≡ true → nat_lt 32 b ≡ true
name_byte b h = grind (arith, nat_tests)

digit_byte : (b : ℕ) → is_ascii_digit b ≡ true → nat_lt 32 b ≡ true
digit_byte b h = grind (arith, nat_tests)

plain_name : (name : List ℕ) → IsTrue (is_name name) → is_plain name ≡ true
plain_name name h =
    let bytes : list_all is_name_byte name ≡ true = grind (arith, nat_tests) in
    by_byte is_name_byte name_byte name bytes

-- a number that may stand in a line has 64 bits
pub small_count : (n : ℕ) → IsCount n → n < 2 ^ 64
small_count n h = omega arith

pub plain_decimal : (n : ℕ) → n < 2 ^ 64 → is_plain (decimal n) ≡ true
plain_decimal n h = by_byte is_ascii_digit digit_byte (decimal n) (digits_decimal digits_model n h)

pub plain_segment : (net : NetworkPlan) (s : ℕ) → IsNetwork net → is_plain (segment_name net s) ≡ true
plain_segment net s network = from (slice_get net.segments s) refl
  where
    from : (o : Option Segment) → slice_get net.segments s ≡ o → is_plain (option_map_or (λ (g : Segment). g.name) o []) ≡ true
    from None e = refl
    from (Some g) e = plain_name g.name (network.segments s g e).name

pub plain_box : (net : NetworkPlan) (b : ℕ) → IsNetwork net → is_plain (box_name net b) ≡ true
plain_box net b network = from (slice_get net.boxes b) refl
  where
    from : (o : Option SwitchBox) → slice_get net.boxes b ≡ o → is_plain (option_map_or (λ (x : SwitchBox). x.name) o []) ≡ true
    from None e = refl
    from (Some x) e = plain_name x.name (network.boxes b x e).name

pub plain_train : (net : NetworkPlan) (t : ℕ) → IsNetwork net → is_plain (train_name net t) ≡ true
plain_train net t network = from (slice_get net.trains t) refl
  where
    from : (o : Option Train) → slice_get net.trains t ≡ o → is_plain (option_map_or (λ (r : Train). r.name) o []) ≡ true
    from None e = refl
    from (Some r) e = plain_name r.name (network.trains t r e).name

pub plain_side : (side : Side) → is_plain (side_word side) ≡ true
plain_side Left = refl
plain_side Right = refl

pub plain_fate : (fate : Fate) → is_plain (fate_word fate) ≡ true
plain_fate Arrived = refl
plain_fate Spent = refl
plain_fate Underway = refl

pub plain_move : (net : NetworkPlan) (m : Move) → IsNetwork net → are_plain (move_words net m) ≡ true
plain_move net (Reserve t s b) h = rw (plain_train net t.0 h, plain_segment net s.0 h, plain_box net b.0 h) refl
plain_move net (Release t s b) h = rw (plain_train net t.0 h, plain_segment net s.0 h, plain_box net b.0 h) refl
plain_move net (Lock t b s s2) h = rw (plain_train net t.0 h, plain_box net b.0 h, plain_segment net s.0 h, plain_segment net s2.0 h) refl
plain_move net (Unlock t b) h = rw (plain_train net t.0 h, plain_box net b.0 h) refl
plain_move net (Throw b) h = rw (plain_box net b.0 h) refl
plain_move net (Settle b side) h = rw (plain_box net b.0 h, plain_side side) refl
plain_move net (Enter t b s s2) h = rw (plain_train net t.0 h, plain_box net b.0 h, plain_segment net s.0 h, plain_segment net s2.0 h) refl
plain_move net (Leave t s) h = rw (plain_train net t.0 h, plain_segment net s.0 h) refl
plain_move net (Refuse t s b u) h = rw (plain_train net t.0 h, plain_segment net s.0 h, plain_box net b.0 h, plain_train net u.0 h) refl
plain_move net (Bar t b u) h = rw (plain_train net t.0 h, plain_box net b.0 h, plain_train net u.0 h) refl

pub plain_outcome : (net : NetworkPlan) (t : ℕ) (o : Outcome) → IsNetwork net → o.made < 2 ^ 64 → o.refused < 2 ^ 64 → are_plain (outcome_words net t o) ≡ true
plain_outcome net t o h made refused = rw (plain_train net t h, plain_fate o.fate, plain_decimal o.made made, plain_decimal o.refused refused) refl

-- bytes above a bound aren't a byte within it
pub not_in_above : (c low : ℕ) (word : List ℕ) → c ≤ low → list_all (λ b. nat_lt low b) word ≡ true → All (λ b. (b == c) ≡ false) word
not_in_above c low word within h k d l =
    let above = at_place (λ b. nat_lt low b) word k d h l in
    other (get_or word k d) above
  where
    at_place : (test : ℕ → Bool) (w : List ℕ) (i v : ℕ) → list_all test w ≡ true → i < length w → test (get_or w i v) ≡ true
    at_place test w i v all within = grind (arith, common_steps, list_all_at test w i v)

    other : (b : ℕ) → nat_lt low b ≡ true → (b == c) ≡ false
    other b above = grind (arith, nat_tests)

pub not_in_plain : (c : ℕ) (word : List ℕ) → c ≤ 32 → is_plain word ≡ true → All (λ b. (b == c) ≡ false) word
not_in_plain c word within h = not_in_above c 32 word within h

-- the bytes of plain words that are joined by spaces are above LF
abbrev above_lf : List ℕ → Bool
above_lf text = list_all (λ b. nat_lt 10 b) text

plain_above_lf : (word : List ℕ) → is_plain word ≡ true → above_lf word ≡ true
plain_above_lf [] h = refl
plain_above_lf (b ∷ bs) h =
    let first : nat_lt 32 b ≡ true = grind (arith, nat_tests) in
    let others : is_plain bs ≡ true = grind (arith, nat_tests) in
    let here : nat_lt 10 b ≡ true = grind (arith, nat_tests) in
    let there = plain_above_lf bs others in
    rw (here, there) refl

joined_above_lf : (words : List (List ℕ)) → are_plain words ≡ true → above_lf (join_with_byte 32 words) ≡ true
joined_above_lf [] h = refl
joined_above_lf (word ∷ []) h =
    let first : is_plain word ≡ true = grind (arith, nat_tests) in
    plain_above_lf word first
joined_above_lf (word ∷ next ∷ words) h =
    let first : is_plain word ≡ true = grind (arith, nat_tests) in
    let others : are_plain (next ∷ words) ≡ true = grind (arith, nat_tests) in
    let here = plain_above_lf word first in
    let there = joined_above_lf (next ∷ words) others in
    rw (list_all-append, here, there) refl

pub no_lf_in_joined : (words : List (List ℕ)) → are_plain words ≡ true → All (λ b. (b == 10) ≡ false) (join_with_byte 32 words)
no_lf_in_joined words h = not_in_above 10 10 (join_with_byte 32 words) (omega arith) (joined_above_lf words h)
