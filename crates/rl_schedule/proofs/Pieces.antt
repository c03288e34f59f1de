-- A list of turns in pieces: those of the iterations of a loop that were, the next, and those that are left.
use Rattle.std.proofs.Common.{◌≡◌, ℕ, zero, suc, ◌+◌, ◌-◌, ◌*◌, ◌<◌, ◌≤◌, List, [], ◌∷◌, ◌++◌, length, take, drop, replicate, slice_get, Some, refl, sym, ap, ◌∙◌, zero-add, add-zero, arith}
use Rattle.std.specs.Prelude.{All}
use Rattle.std.specs.List.{repeat, range_with_len}
use Rattle.std.proofs.lemmas.List.{append_assoc, append-nil, length-append, length-replicate, replicate-append-replicate, take_more, take-append-drop, flat_map_more}
use Rattle.std.proofs.lemmas.List.Elements.{All-get_or}
use Rattle.std.proofs.lemmas.List.Sums.{sum_by_more_le, sum_by-cons}
use Rattle.std.proofs.lemmas.Grind.{flat_map-append}
use Rattle.std.proofs.lemmas.Option.{slice_get_within, get_or_from_slice_get}
use Rattle.std.proofs.lemmas.List.FromFn.{length-range_with_len}
use Rattle.rl_schedule.specs.declared.schedules.Item.{Item}
use Rattle.rl_schedule.specs.declared.schedules.Item.TheVariants.{Turn, Round}
use Rattle.rl_schedule.specs.Turns.{HasNode, turns_in, turns_of, turn_count, turns_together}

pub range_split : (a n m : ℕ) → range_with_len a (n + m) ≡ range_with_len a n ++ range_with_len (a + n) m
range_split a zero m = rw (zero-add m, add-zero a) refl
range_split a (suc n) m =
    let e : suc n + m ≡ suc (n + m) = omega arith in
    let f : a + 1 + n ≡ a + suc n = omega arith in
    rw e (ap (λ l. a ∷ l) (range_split (a + 1) n m ∙ ap (λ b. range_with_len (a + 1) n ++ range_with_len b m) f))

pub repeat_split : (xs : List ℕ) (n m : ℕ) → repeat (n + m) xs ≡ repeat n xs ++ repeat m xs
repeat_split xs zero m = rw (zero-add m) refl
repeat_split xs (suc n) m =
    let e : suc n + m ≡ suc (n + m) = omega arith in
    rw e (ap (λ l. xs ++ l) (repeat_split xs n m) ∙ sym (append_assoc xs (repeat n xs) (repeat m xs)))

-- so many before the next, and those after it
pub replicate_next : (n i count : ℕ) → i < count → replicate count n ≡ replicate i n ++ (n ∷ [] ++ replicate (count - (i + 1)) n)
replicate_next n i count below =
    let e : count ≡ i + (1 + (count - (i + 1))) = omega arith in
    let f : 1 + (count - (i + 1)) ≡ suc (count - (i + 1)) = omega arith in
    ap (λ k. replicate k n) e ∙ sym (replicate-append-replicate i (1 + (count - (i + 1))) n) ∙ ap (λ k. replicate i n ++ replicate k n) f

pub range_next : (i count : ℕ) → i < count → range_with_len 0 count ≡ range_with_len 0 i ++ (i ∷ [] ++ range_with_len (i + 1) (count - (i + 1)))
range_next i count below =
    let e : count ≡ i + suc (count - (i + 1)) = omega arith in
    let f : 0 + i ≡ i = omega arith in
    ap (range_with_len 0) e ∙ range_split 0 i (suc (count - (i + 1))) ∙ ap (λ k. range_with_len 0 i ++ range_with_len k (suc (count - (i + 1)))) f

pub repeat_next : (xs : List ℕ) (i count : ℕ) → i < count → repeat count xs ≡ repeat i xs ++ (xs ++ repeat (count - (i + 1)) xs)
repeat_next xs i count below =
    let e : count ≡ i + suc (count - (i + 1)) = omega arith in
    ap (λ k. repeat k xs) e ∙ repeat_split xs i (suc (count - (i + 1)))

-- one more of them
pub replicate_more : (n i : ℕ) → replicate i n ++ n ∷ [] ≡ replicate (i + 1) n
replicate_more n i = replicate-append-replicate i 1 n

pub range_more : (i : ℕ) → range_with_len 0 i ++ i ∷ [] ≡ range_with_len 0 (i + 1)
range_more i = let f : 0 + i ≡ i = omega arith in sym (range_split 0 i 1 ∙ ap (λ k. range_with_len 0 i ++ k ∷ []) f)

pub repeat_more : (xs : List ℕ) (i : ℕ) → repeat i xs ++ xs ≡ repeat (i + 1) xs
repeat_more xs i = sym (repeat_split xs i 1 ∙ ap (λ l. repeat i xs ++ l) (append-nil xs))

pub length_repeat : (xs : List ℕ) (n : ℕ) → length (repeat n xs) ≡ n * length xs
length_repeat xs zero = omega arith
length_repeat xs (suc n) = omega (arith, length-append xs (repeat n xs), length_repeat xs n)

-- the turns of the items up to one, and with that
pub turns_more : (nodes : ℕ) (items : List Item) (i : ℕ) (item : Item) → slice_get items i ≡ Some item
    → turns_of nodes (take i items) ++ turns_in nodes item ≡ turns_of nodes (take (i + 1) items)
turns_more nodes items i item at =
    let within : i < length items = slice_get_within items i item at in
    let e : take (i + 1) items ≡ take i items ++ item ∷ [] = rw (take_more items i item within, get_or_from_slice_get items i item item at) refl in
    rw e (flat_map_more (turns_in nodes) [] (take i items) item)

-- and of those behind it
pub turns_next : (nodes : ℕ) (items : List Item) (i : ℕ) (item : Item) → slice_get items i ≡ Some item
    → turns_of nodes items ≡ turns_of nodes (take i items) ++ (turns_in nodes item ++ turns_of nodes (drop (i + 1) items))
turns_next nodes items i item at =
    ap (turns_of nodes) (sym (take-append-drop (i + 1) items)) ∙ flat_map-append (turns_in nodes) (take (i + 1) items) (drop (i + 1) items)
    ∙ ap (λ l. l ++ turns_of nodes (drop (i + 1) items)) (sym (turns_more nodes items i item at))
    ∙ append_assoc (turns_of nodes (take i items)) (turns_in nodes item) (turns_of nodes (drop (i + 1) items))

-- how many they are
pub length_in : (nodes : ℕ) (item : Item) → length (turns_in nodes item) ≡ turn_count nodes item
length_in nodes (Turn node count) = length-replicate count node.0
length_in nodes (Round count) = length_repeat (range_with_len 0 nodes) count ∙ ap (λ n. count * n) (length-range_with_len 0 nodes)

pub length_turns : (nodes : ℕ) (items : List Item) → length (turns_of nodes items) ≡ turns_together nodes items
length_turns nodes [] = refl
length_turns nodes (item ∷ items) =
    length-append (turns_in nodes item) (turns_of nodes items)
    ∙ (omega (arith, length_in nodes item, length_turns nodes items, sum_by-cons (turn_count nodes) item items))

-- with those of an item among them, they are no more than all
pub turns_within : (nodes : ℕ) (items : List Item) (i : ℕ) (item : Item) → slice_get items i ≡ Some item
    → length (turns_of nodes (take i items)) + turn_count nodes item ≤ turns_together nodes items
turns_within nodes items i item at =
    let within : i < length items = slice_get_within items i item at in
    let same = get_or_from_slice_get items i item item at in
    let le : turns_together nodes (take i items) + turn_count nodes item ≤ turns_together nodes items =
    rw same at (sum_by_more_le (turn_count nodes) items i item within) in
    rw (length_turns nodes (take i items)) le

pub item_there : (nodes : ℕ) (items : List Item) (i : ℕ) (item : Item) → slice_get items i ≡ Some item → All (HasNode nodes) items → HasNode nodes item
item_there nodes items i item at all =
    let within : i < length items = slice_get_within items i item at in
    rw (get_or_from_slice_get items i item item at) at (All-get_or (HasNode nodes) items i item within all)
