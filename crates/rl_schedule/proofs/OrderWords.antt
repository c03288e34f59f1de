-- The search for the order of a line finds it exactly where the line gives it.
use Rattle.std.proofs.Common.{◌≡◌, ℕ, ◌<◌, ◌≤◌, ◌^◌, Bool, true, false, not, ◌&&◌, ◌==◌, nat_le, nat_lt, ◌⊎◌, IsTrue, List, [], ◌∷◌, ◌++◌, length, get_or, codes, decimal, bytes_eq, Option, Some, None, option_map, option_and_then, if◌then◌else◌, refl, sym, ap, ◌∙◌, inl, inr, lit≤, arith}
use Rattle.std.specs.Char.{is_ascii_digit}
use Rattle.std.specs.List.{list_all, position_or_len, before_first, after_first}
use Rattle.std.specs.Str.Parse.{digits_value}
use Rattle.std.proofs.lemmas.Bool.{cases_lt, false≢true, not-false}
use Rattle.std.proofs.lemmas.Bool.Decides.{nat_tests}
use Rattle.std.proofs.lemmas.List.Sums.{prefix_len_stops, split_at_first}
use Rattle.std.proofs.lemmas.Slice.Eq.{bytes_eq-Decides}
use Rattle.std.proofs.Math.ListN.{drop_of_length-le}
use Rattle.rl_base.specs.Name.{is_name}
use Rattle.rl_text.specs.Lines.{Line}
use Rattle.rl_text.specs.Number.{number_of, has_leading_zero}
use Rattle.rl_text.specs.Words.{words_of}
use Rattle.rl_text.proofs.NumberLemmas.{digits-decimal, number_of-digits, IsDecimalText-decimal}
use Rattle.rl_schedule.specs.declared.roles.Role.{Role}
use Rattle.rl_schedule.specs.declared.roles.Role.TheVariants.{Train, Track, SwitchBox, Machine}
use Rattle.rl_schedule.specs.Orders.{NamedNode, Order, role_word, node_word, IsCount, AreWordsOf, IsOrder, Gives, count_of, role_of, node_of, turns_order, order_of_two, order_of_three, order_of_words, order_of}

-- a test of equal bytes, either way
test_of : (a b : List ℕ) → ((bytes_eq a b ≡ true) × (a ≡ b)) ⊎ (bytes_eq a b ≡ false)
test_of a b = by (bytes_eq a b) refl
  where
    by : (t : Bool) → bytes_eq a b ≡ t → ((bytes_eq a b ≡ true) × (a ≡ b)) ⊎ (bytes_eq a b ≡ false)
    by true e = inl (e, (bytes_eq-Decides a b).0 e)
    by false e = inr e

-- numbers
number_by : (some digits leads fits : Bool) (v n : ℕ) → (if some && digits && not leads && fits then Some v else None) ≡ Some n
    → (some ≡ true) × (digits ≡ true) × (leads ≡ false) × (fits ≡ true) × (v ≡ n)
number_by true true false true v n e = (refl, refl, refl, refl, cc)
number_by true true false false v n e = absurd (cc)
number_by true true true fits v n e = absurd (cc)
number_by true false leads fits v n e = absurd (cc)
number_by false digits leads fits v n e = absurd (cc)

number_is : (word : List ℕ) (n : ℕ) → number_of word ≡ Some n → word ≡ decimal n
unfolding number_of
number_is word n is =
    let all = number_by (nat_lt 0 (length word)) (list_all is_ascii_digit word) (has_leading_zero word) (nat_lt (digits_value 10 word) (2 ^ 64))
    (digits_value 10 word) n is in
    let some : 0 < length word = grind (arith, nat_tests, all.0) in
    let fits : digits_value 10 word < 2 ^ 64 = grind (arith, nat_tests, all.3) in
    digits-decimal word all.1 all.2 some fits ∙ ap decimal all.4

is_number : (n : ℕ) → n < 2 ^ 64 → number_of (decimal n) ≡ Some n
is_number n small =
    let text = IsDecimalText-decimal (decimal n) n small refl in
    sym (number_of-digits (decimal n) (Some n) text.digits text.plain ((text.some, rw text.value small), sym text.value))

-- counts
in_range : (m n : ℕ) → (if nat_le 1 m && nat_le m 1000000 then Some m else None) ≡ Some n → (m ≡ n) × ((1 ≤ m) × (m ≤ 1000000))
in_range m n is = grind (arith, nat_tests)

range_in : (n : ℕ) → 1 ≤ n → n ≤ 1000000 → (if nat_le 1 n && nat_le n 1000000 then Some n else None) ≡ Some n
range_in n some few = grind (arith, nat_tests)

count_is : (word : List ℕ) (n : ℕ) → count_of word ≡ Some n → (word ≡ decimal n) × IsCount n
count_is word n is = by (number_of word) refl is
  where
    by : (o : Option ℕ) → number_of word ≡ o → option_and_then (λ m. if nat_le 1 m && nat_le m 1000000 then Some m else None) o ≡ Some n
        → (word ≡ decimal n) × IsCount n
    by None e is = absurd (cc)
    by (Some m) e is =
        let range = in_range m n is in
        (number_is word m e ∙ ap decimal range.0, record { some = rw (← range.0) range.1.0; few = rw (← range.0) range.1.1 })

is_count : (n : ℕ) → IsCount n → count_of (decimal n) ≡ Some n
is_count n count = rw (is_number n (omega (arith, count.few))) (range_in n count.some count.few)

-- roles
role_is : (word : List ℕ) (r : Role) → role_of word ≡ Some r → word ≡ role_word r
role_is word r is =
    elim (test_of word (codes "train")) [
      | inl t ↦ let e : Some Train ≡ Some r = rw t.0 at is in let s : Train ≡ r = cc in t.1 ∙ ap role_word s
      | inr f ↦ elim (test_of word (codes "track")) [
        | inl t ↦ let e : Some Track ≡ Some r = rw (f, t.0) at is in let s : Track ≡ r = cc in t.1 ∙ ap role_word s
        | inr f2 ↦ elim (test_of word (codes "box")) [
          | inl t ↦ let e : Some SwitchBox ≡ Some r = rw (f, f2, t.0) at is in let s : SwitchBox ≡ r = cc in t.1 ∙ ap role_word s
          | inr f3 ↦ elim (test_of word (codes "machine")) [
            | inl t ↦ let e : Some Machine ≡ Some r = rw (f, f2, f3, t.0) at is in let s : Machine ≡ r = cc in t.1 ∙ ap role_word s
            | inr f4 ↦ let e : None ≡ Some r = rw (f, f2, f3, f4) at is in absurd (cc)
          ]
        ]
      ]
    ]

is_role : (r : Role) → role_of (role_word r) ≡ Some r
is_role Train = refl
is_role Track = refl
is_role SwitchBox = refl
is_role Machine = refl

-- nodes
abbrev is_colon : ℕ → Bool
is_colon b = b == 58

-- what has a name behind its first colon has a colon
has_colon : (word : List ℕ) → is_name (after_first is_colon word) ≡ true → position_or_len is_colon word < length word
has_colon word named =
    elim (cases_lt (position_or_len is_colon word) (length word)) [
      | inl within ↦ within
      | inr past ↦
          let nothing : after_first is_colon word ≡ [] = drop_of_length-le word (omega arith) in
          let e : is_name [] ≡ true = rw nothing at named in
          absurd (false≢true e)
    ]

node_is : (word : List ℕ) (node : NamedNode) → node_of word ≡ Some node → (word ≡ node_word node) × IsTrue (is_name node.name)
node_is word node is = by (is_name (after_first is_colon word)) refl (role_of (before_first is_colon word)) refl
  where
    by : (t : Bool) → is_name (after_first is_colon word) ≡ t → (o : Option Role) → role_of (before_first is_colon word) ≡ o
        → (word ≡ node_word node) × IsTrue (is_name node.name)
    by false e o r = let none : None ≡ Some node = rw e at is in absurd (cc)
    by true e None r = let none : None ≡ Some node = rw (e, r) at is in absurd (cc)
    by true e (Some role) r =
        let same : Some (record { role = role; name = after_first is_colon word }) ≡ Some node = rw (e, r) at is in
        let node_same : record { role = role; name = after_first is_colon word } ≡ node = cc in
        let within = has_colon word e in
        let at : is_colon (get_or word (position_or_len is_colon word) 0) ≡ true =
        not-false (is_colon (get_or word (position_or_len is_colon word) 0)) (prefix_len_stops (λ x. not (is_colon x)) word 0 within) in
        let colon : get_or word (position_or_len is_colon word) 0 ≡ 58 = grind (arith, nat_tests) in
        let split : word ≡ before_first is_colon word ++ (58 ∷ after_first is_colon word) = rw colon at (split_at_first is_colon word 0 within) in
        rw (← node_same) (split ∙ ap (λ l. l ++ (58 ∷ after_first is_colon word)) (role_is (before_first is_colon word) role r), e)

before_colon : (r : Role) (name : List ℕ) → before_first is_colon (role_word r ++ 58 ∷ name) ≡ role_word r
before_colon Train name = refl
before_colon Track name = refl
before_colon SwitchBox name = refl
before_colon Machine name = refl

after_colon : (r : Role) (name : List ℕ) → after_first is_colon (role_word r ++ 58 ∷ name) ≡ name
after_colon Train name = refl
after_colon Track name = refl
after_colon SwitchBox name = refl
after_colon Machine name = refl

is_node : (node : NamedNode) → IsTrue (is_name node.name) → node_of (node_word node) ≡ Some node
is_node node named = rw (after_colon node.role node.name, before_colon node.role node.name, named, is_role node.role) refl

-- turns of a node
turns_are : (word : List ℕ) (count : ℕ) (order : Order) → turns_order word (Some count) ≡ Some order
    → (node : NamedNode) × (word ≡ node_word node) × IsTrue (is_name node.name) × (order ≡ Order.turns node count)
turns_are word count order is = by (node_of word) refl is
  where
    by : (o : Option NamedNode) → node_of word ≡ o → option_and_then (λ n. option_map (λ c. Order.turns n c) (Some count)) o ≡ Some order
        → (node : NamedNode) × (word ≡ node_word node) × IsTrue (is_name node.name) × (order ≡ Order.turns node count)
    by None e is = absurd (cc)
    by (Some node) e is = let named = node_is word node e in (node, named.0, named.1, cc)

no_count : (word : List ℕ) → turns_order word None ≡ None
no_count word = by (node_of word)
  where
    by : (o : Option NamedNode) → option_and_then (λ n. option_map (λ c. Order.turns n c) None) o ≡ None
    by None = refl
    by (Some node) = refl

-- two words
turn_of_one : (first second : List ℕ) (node : NamedNode) (order : Order) → first ≡ codes "turn" → second ≡ node_word node → IsTrue (is_name node.name)
    → order ≡ Order.turns node 1 → IsOrder order × AreWordsOf order (first ∷ second ∷ [])
turn_of_one first second node order f s named is = rw (is, f, s) ((named, record { some = lit≤ tt; few = lit≤ tt }), inr (refl, refl))

two_are : (first second : List ℕ) (order : Order) → order_of_two first second ≡ Some order → IsOrder order × AreWordsOf order (first ∷ second ∷ [])
two_are first second order is =
    elim (test_of first (codes "turn")) [
      | inl t ↦
          let turns = turns_are second 1 order (rw t.0 at is) in
          turn_of_one first second turns.0 order t.1 turns.1 turns.2 turns.3
      | inr f ↦
          elim (test_of first (codes "round")) [
            | inl t ↦ rounds t.1 (count_of second) refl (rw (f, t.0) at is)
            | inr f2 ↦ let none : None ≡ Some order = rw (f, f2) at is in absurd (cc)
          ]
    ]
  where
    rounds : first ≡ codes "round" → (o : Option ℕ) → count_of second ≡ o → option_map Order.rounds o ≡ Some order
        → IsOrder order × AreWordsOf order (first ∷ second ∷ [])
    rounds e None c is = absurd (cc)
    rounds e (Some n) c is =
        let count = count_is second n c in
        let same : order ≡ Order.rounds n = cc in
        rw same (count.1, rw (e, count.0) refl)

-- three words
turns_of_three : (first second third : List ℕ) (node : NamedNode) (n : ℕ) (order : Order) → first ≡ codes "turn" → second ≡ node_word node → third ≡ decimal n
    → IsTrue (is_name node.name) → IsCount n → order ≡ Order.turns node n → IsOrder order × AreWordsOf order (first ∷ second ∷ third ∷ [])
turns_of_three first second third node n order f s t named count is = rw (is, f, s, t) ((named, count), inl refl)

three_are : (first second third : List ℕ) (order : Order) → order_of_three first second third ≡ Some order
    → IsOrder order × AreWordsOf order (first ∷ second ∷ third ∷ [])
three_are first second third order is =
    elim (test_of first (codes "turn")) [
      | inl t ↦ counted t.1 (count_of third) refl (rw t.0 at is)
      | inr f ↦ let none : None ≡ Some order = rw f at is in absurd (cc)
    ]
  where
    counted : first ≡ codes "turn" → (o : Option ℕ) → count_of third ≡ o → turns_order second o ≡ Some order
        → IsOrder order × AreWordsOf order (first ∷ second ∷ third ∷ [])
    counted e None c is = let none : None ≡ Some order = sym (no_count second) ∙ is in absurd (cc)
    counted e (Some n) c is =
        let count = count_is third n c in
        let turns = turns_are second n order is in
        turns_of_three first second third turns.0 n order e turns.1 count.0 turns.2 count.1 turns.3

words_are : (words : List (List ℕ)) (order : Order) → order_of_words words ≡ Some order → IsOrder order × AreWordsOf order words
words_are [] order is = absurd (cc)
words_are (first ∷ []) order is = absurd (cc)
words_are (first ∷ second ∷ []) order is = two_are first second order is
words_are (first ∷ second ∷ third ∷ []) order is = three_are first second third order is
words_are (first ∷ second ∷ third ∷ fourth ∷ words) order is = absurd (cc)

are_words : (words : List (List ℕ)) (order : Order) → IsOrder order → AreWordsOf order words → order_of_words words ≡ Some order
are_words words (Order.turns node count) fits are =
    elim are [
      | inl three ↦ rw (three, is_node node fits.0, is_count count fits.1) refl
      | inr two ↦ rw (two.0, two.1, is_node node fits.0) refl
    ]
are_words words (Order.rounds count) fits are = rw (are, is_count count fits) refl

-- lines
pub order_given : (line : Line) (order : Order) → order_of line ≡ Some order → Gives line order
order_given line order is = by line.whole refl
  where
    by : (w : Bool) → line.whole ≡ w → Gives line order
    by false e = let none : None ≡ Some order = rw e at is in absurd (cc)
    by true e =
        let of : order_of_words (words_of line.text) ≡ Some order = rw e at is in
        let all = words_are (words_of line.text) order of in
        record { whole = e; fits = all.0; words = all.1 }

pub given_order : (line : Line) (order : Order) → Gives line order → order_of line ≡ Some order
given_order line order gives = rw (gives.whole) (are_words (words_of line.text) order gives.fits gives.words)
