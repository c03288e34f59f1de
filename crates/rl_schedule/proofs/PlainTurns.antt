-- A line `turn KIND:NAME` with a name that is there gives one turn of that node.
use Rattle.std.proofs.Common.{◌≡◌, ◌≢◌, ◌==◌, nat_le, ℕ, ◌<◌, Bool, true, false, ◌&&◌, IsTrue, List, [], ◌∷◌, ◌++◌, length, codes, Option, Some, None, Ok, refl, sym, ap, ◌∙◌, inl, inr, lit≤, arith}
use Rattle.std.specs.Prelude.{All}
use Rattle.std.specs.Borrow.{Bor}
use Rattle.std.specs.Option.{MatchOption, IfSome}
use Rattle.std.specs.List.{list_all}
use Rattle.std.proofs.lemmas.Bool.{false≢true}
use Rattle.std.proofs.lemmas.Bool.Decides.{nat_tests}
use Rattle.std.proofs.lemmas.List.Elements.{All-weaker}
use Rattle.std.proofs.lemmas.List.Sums.{AllPass-from_list_all}
use Rattle.std.proofs.lemmas.List.Splits.{slice_split_none}
use Rattle.std.proofs.lemmas.Option.{slice_get_cases}
use Rattle.rl_base.specs.Name.{is_name, is_name_byte}
use Rattle.rl_base.specs.declared.ids.NodeNo.{NodeNo}
use Rattle.rl_base.specs.declared.layout.NodeKind.{NodeKind}
use Rattle.rl_base.specs.declared.layout.NodeKind.TheVariants as nodes
use Rattle.rl_model.specs.declared.network.NetworkPlan.{NetworkPlan}
use Rattle.rl_model.specs.Network.{IsNetwork, train_name, box_name}
use Rattle.rl_text.specs.Lines.{Line}
use Rattle.rl_text.specs.Words.{words_of}
use Rattle.rl_schedule.specs.declared.roles.Role.{Role}
use Rattle.rl_schedule.specs.declared.roles.Role.TheVariants as roles
use Rattle.rl_schedule.specs.declared.schedules.Item.TheVariants.{Turn}
use Rattle.rl_schedule.specs.Orders.{NamedNode, Order, Gives, order_of, role_word}
use Rattle.rl_schedule.specs.Readings.{number_in, item_of}
use Rattle.rl_schedule.specs.Meaning.{Names}
use Rattle.rl_schedule.specs.Given.{item_at}
use Rattle.rl_schedule.proofs.OrderWords.{given_order}
use Rattle.rl_schedule.proofs.Items.{item_said}

-- what a text is, where a front is taken off
pub front_of : (text front : List ℕ) (rest : Option (Bor (List ℕ))) → MatchOption rest ((l : List ℕ) → text ≢ front ++ l) (λ r. text ≡ front ++ r.now)
    → IfSome rest (λ r. text ≡ front ++ r.now)
front_of text front None is = tt
front_of text front (Some rest) is = is

-- a name has no space, so it is one word
byte_of_name : (b : ℕ) → is_name_byte b ≡ true → (b == 32) ≡ false
byte_of_name b is = grind (arith, nat_tests)

no_space : (name : List ℕ) → list_all is_name_byte name ≡ true → All (λ b. (b == 32) ≡ false) name
no_space name all =
    All-weaker (λ b. is_name_byte b ≡ true) (λ b. (b == 32) ≡ false) byte_of_name name (AllPass-from_list_all is_name_byte name all)

third : (a b c : Bool) → (a && b && c) ≡ true → c ≡ true
third true true true all = refl
third true true false all = all
third true false c all = absurd (cc)
third false b c all = absurd (cc)

one_word : (name : List ℕ) → IsTrue (is_name name) → words_of name ≡ name ∷ []
one_word name named =
    slice_split_none (λ b. b == 32) name
    (no_space name (third (nat_le 1 (length name)) (nat_le (length name) 16) (list_all is_name_byte name) named))

-- the words of the line
turn_words : (role : Role) (name : List ℕ) → words_of name ≡ name ∷ []
    → words_of (codes "turn " ++ (role_word role ++ 58 ∷ name)) ≡ codes "turn" ∷ (role_word role ++ 58 ∷ name) ∷ []
turn_words roles.Train name one = rw one refl
turn_words roles.Track name one = rw one refl
turn_words roles.SwitchBox name one = rw one refl
turn_words roles.Machine name one = rw one refl

-- the name of what is there is a name
train_valid : (net : NetworkPlan) → IsNetwork net → (t : ℕ) → t < length net.trains → IsTrue (is_name (train_name net t))
train_valid net network t within =
    elim (slice_get_cases net.trains t).1 [
      | inl x ↦ rw (x.2) ((network.trains t x.0 x.2).name)
      | inr past ↦ absurd (omega (arith, past.0))
    ]

box_valid : (net : NetworkPlan) → IsNetwork net → (b : ℕ) → b < length net.boxes → IsTrue (is_name (box_name net b))
box_valid net network b within =
    elim (slice_get_cases net.boxes b).1 [
      | inl x ↦ rw (x.2) ((network.boxes b x.0 x.2).name)
      | inr past ↦ absurd (omega (arith, past.0))
    ]

valid : (net : NetworkPlan) → IsNetwork net → (word : NamedNode) (kind : NodeKind) → Names net word kind → IsTrue (is_name word.name)
valid net network word (nodes.Train t) names = rw (names.1) (train_valid net network t.0 names.0)
valid net network word (nodes.Track t) names = rw (names.1) (train_valid net network t.0 names.0)
valid net network word (nodes.Box b) names = rw (names.1) (box_valid net network b.0 names.0)
valid net network word (nodes.Machine b) names = rw (names.1) (box_valid net network b.0 names.0)

pub plain_item : (net : NetworkPlan) → IsNetwork net → (n : ℕ) (line : Line) (role : Role) (name : List ℕ) (node : NodeNo) → line.whole ≡ true
    → line.text ≡ codes "turn " ++ (role_word role ++ 58 ∷ name) → number_in net role name ≡ Some node.0 → item_at net n line ≡ Ok (Turn node 1)
plain_item net network n line role name node whole text there =
    let word : NamedNode = record { role = role; name = name } in
    let item : item_of net (Order.turns word 1) ≡ Some (Turn node 1) = rw there refl in
    let said = item_said net (Order.turns word 1) (Turn node 1) item in
    let named : IsTrue (is_name name) = valid net network word said.1 said.2 in
    let gives : Gives line (Order.turns word 1) =
    record {
      whole = whole;
      fits = (named, record { some = lit≤ tt; few = lit≤ tt });
      words = inr (rw text (turn_words role name (one_word name named)), refl);
    } in
    let order : order_of line ≡ Some (Order.turns word 1) = given_order line (Order.turns word 1) gives in
    rw (order, item) refl

-- so a text that is no name is the name of nothing
pub no_train : (net : NetworkPlan) → IsNetwork net → (name : List ℕ) → is_name name ≡ false → (t : ℕ) → t < length net.trains → train_name net t ≢ name
no_train net network name not_one t within is =
    let named : is_name (train_name net t) ≡ true = train_valid net network t within in
    absurd (false≢true (sym not_one ∙ ap is_name (sym is) ∙ named))

pub no_box : (net : NetworkPlan) → IsNetwork net → (name : List ℕ) → is_name name ≡ false → (b : ℕ) → b < length net.boxes → box_name net b ≢ name
no_box net network name not_one b within is =
    let named : is_name (box_name net b) ≡ true = box_valid net network b within in
    absurd (false≢true (sym not_one ∙ ap is_name (sym is) ∙ named))
