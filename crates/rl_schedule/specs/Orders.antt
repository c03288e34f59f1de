-- What a line of a schedule text says.
use Rattle.std.specs.Prelude.{◌≡◌, ℕ, ◌≤◌, ◌==◌, nat_le, true, ◌&&◌, ◌⊎◌, IsTrue, List, [], ◌∷◌, ◌++◌, codes, decimal, bytes_eq, Option, Some, None, option_map, option_and_then, if◌then◌else◌}
use Rattle.std.specs.List.{before_first, after_first}
use Rattle.rl_base.specs.Name.{is_name}
use Rattle.rl_base.specs.declared.limits.TheConstants.{MAX_TURNS}
use Rattle.rl_text.specs.Lines.{Line}
use Rattle.rl_text.specs.Number.{number_of}
use Rattle.rl_text.specs.Words.{words_of}
use Rattle.rl_schedule.specs.declared.roles.Role.{Role}
use Rattle.rl_schedule.specs.declared.roles.Role.TheVariants.{Train, Track, SwitchBox, Machine}

-- a node as a line names it: what it is, and the name of its train or box
pub record NamedNode : Type 0 where
  pub role : Role
  pub name : List ℕ

-- what a line orders: so many turns of a node, or so many rounds
pub data Order : Type 0 where
  turns : NamedNode → ℕ → Order
  rounds : ℕ → Order

-- the word for what a node is
abbrev pub role_word : Role → List ℕ
role_word Train = codes "train"
role_word Track = codes "track"
role_word SwitchBox = codes "box"
role_word Machine = codes "machine"

-- the word for a node: that word, a colon, and the name
abbrev pub node_word : NamedNode → List ℕ
node_word node = role_word node.role ++ 58 ∷ node.name

-- a count is from 1 to 1,000,000
pub record IsCount (count : ℕ) : Type 0 where
  pub some : 1 ≤ count
  pub few : count ≤ MAX_TURNS

-- The words of the line that gives the order. One turn needs no count
abbrev pub AreWordsOf : Order → List (List ℕ) → Type 0
AreWordsOf (Order.turns node count) words =
    (words ≡ codes "turn" ∷ node_word node ∷ decimal count ∷ []) ⊎
    ((words ≡ codes "turn" ∷ node_word node ∷ []) × (count ≡ 1))
AreWordsOf (Order.rounds count) words = words ≡ codes "round" ∷ decimal count ∷ []

-- what it orders can be ordered: a name is one, and a count is in its range
abbrev pub IsOrder : Order → Type 0
IsOrder (Order.turns node count) = IsTrue (is_name node.name) × IsCount count
IsOrder (Order.rounds count) = IsCount count

-- the line gives the order: an LF ended it, and cut at its spaces it has these words
pub record Gives (line : Line) (order : Order) : Type 0 where
  pub whole : line.whole ≡ true
  pub fits : IsOrder order
  pub words : AreWordsOf order (words_of line.text)

-- The same by a search: what the words say, if they say anything
abbrev pub count_of : List ℕ → Option ℕ
count_of word = option_and_then (λ n. if nat_le 1 n && nat_le n MAX_TURNS then Some n else None) (number_of word)

abbrev pub role_of : List ℕ → Option Role
role_of word =
    if bytes_eq word (codes "train") then Some Train else
    (if bytes_eq word (codes "track") then Some Track else
    (if bytes_eq word (codes "box") then Some SwitchBox else
    (if bytes_eq word (codes "machine") then Some Machine else None)))

-- what stands before the first colon is the role, what stands behind it the name
abbrev pub node_of : List ℕ → Option NamedNode
node_of word =
    let name = after_first (λ b. b == 58) word in
    if is_name name then
    option_map (λ r. record { role = r; name = name }) (role_of (before_first (λ b. b == 58) word)) else None

abbrev pub turns_order : List ℕ → Option ℕ → Option Order
turns_order node count = option_and_then (λ n. option_map (λ c. Order.turns n c) count) (node_of node)

-- a line of two words, and one of three
abbrev pub order_of_two : List ℕ → List ℕ → Option Order
order_of_two first second =
    if bytes_eq first (codes "turn") then turns_order second (Some 1) else
    (if bytes_eq first (codes "round") then option_map Order.rounds (count_of second) else None)

abbrev pub order_of_three : List ℕ → List ℕ → List ℕ → Option Order
order_of_three first second third =
    if bytes_eq first (codes "turn") then turns_order second (count_of third) else None

abbrev pub order_of_words : List (List ℕ) → Option Order
order_of_words (first ∷ second ∷ []) = order_of_two first second
order_of_words (first ∷ second ∷ third ∷ []) = order_of_three first second third
order_of_words _ = None

-- the order that a line gives, if it gives one
abbrev pub order_of : Line → Option Order
order_of line = if line.whole then order_of_words (words_of line.text) else None
