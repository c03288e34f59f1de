-- The search for the item of an order finds it exactly where the order is an item.
use Rattle.std.proofs.Common.{◌≡◌, ℕ, ◌<◌, List, [], ◌∷◌, length, slice_get, get_or, Option, Some, None, option_map, refl, sym, ap, ◌∙◌, subst, inl, inr, arith}
use Rattle.std.specs.Option.{option_map_or}
use Rattle.std.specs.List.{position}
use Rattle.std.proofs.lemmas.List.Quantifiers.{position-Some}
use Rattle.std.proofs.lemmas.Option.{slice_get_cases, slice_get-get_or}
use Rattle.std.proofs.lemmas.Slice.Eq.{bytes_eq-Decides}
use Rattle.rl_base.specs.declared.layout.NodeKind.{NodeKind}
use Rattle.rl_base.specs.declared.layout.NodeKind.TheVariants as nodes
use Rattle.rl_base.specs.Layout.{node_number}
use Rattle.rl_model.specs.declared.network.NetworkPlan.{NetworkPlan}
use Rattle.rl_model.specs.declared.network.SwitchBox.{SwitchBox}
use Rattle.rl_model.specs.declared.network.Train.{Train}
use Rattle.rl_model.specs.Network.{IsNetwork, train_name, box_name}
use Rattle.rl_schedule.specs.declared.roles.Role.{Role}
use Rattle.rl_schedule.specs.declared.roles.Role.TheVariants as roles
use Rattle.rl_schedule.specs.declared.schedules.Item.{Item}
use Rattle.rl_schedule.specs.declared.schedules.Item.TheVariants.{Turn, Round}
use Rattle.rl_schedule.specs.Orders.{NamedNode, Order}
use Rattle.rl_schedule.specs.Readings.{plan_layout, train_named, box_named, number_in, item_of}
use Rattle.rl_schedule.specs.Meaning.{Names, IsItemOf}
use Rattle.rl_schedule.proofs.Named.{is_named, Differ, named_position}

-- at the first place of a name stands a thing of that name
place_named : {X : Type 0} (name : X → List ℕ) (word : List ℕ) (xs : List X) (i : ℕ) → position (is_named name word) xs ≡ Some i
    → (i < length xs) × (option_map_or name (slice_get xs i) [] ≡ word)
place_named name word [] i is = absurd (cc)
place_named name word (x ∷ xs) i is =
    let found = position-Some (is_named name word) (x ∷ xs) i x is in
    (found.0, ap (λ o. option_map_or name o []) (slice_get-get_or (x ∷ xs) i x found.0) ∙ (bytes_eq-Decides (name (get_or (x ∷ xs) i x)) word).0 found.1)

-- and a name that stands somewhere stands there first
named_place : {X : Type 0} (name : X → List ℕ) (xs : List X) (i : ℕ) → Differ name xs → i < length xs
    → position (is_named name (option_map_or name (slice_get xs i) [])) xs ≡ Some i
named_place name xs i differ within =
    elim (slice_get_cases xs i).1 [
      | inl x ↦ named_position name (option_map_or name (slice_get xs i) []) xs i x.0 differ x.2 (sym (ap (λ o. option_map_or name o []) x.2))
      | inr past ↦ absurd (omega (arith, past.0))
    ]

train_at : (net : NetworkPlan) (name : List ℕ) (t : ℕ) → train_named net name ≡ Some t → (t < length net.trains) × (name ≡ train_name net t)
train_at net name t is = let at = place_named (λ (x : Train). x.name) name net.trains t is in (at.0, sym at.1)

box_at : (net : NetworkPlan) (name : List ℕ) (b : ℕ) → box_named net name ≡ Some b → (b < length net.boxes) × (name ≡ box_name net b)
box_at net name b is = let at = place_named (λ (x : SwitchBox). x.name) name net.boxes b is in (at.0, sym at.1)

-- a node of the network that is named so
abbrev IsNode : NetworkPlan → NamedNode → ℕ → Type 0
IsNode net word n = (kind : NodeKind) × Names net word kind × (n ≡ node_number (plan_layout net) kind)

by_train : (net : NetworkPlan) (name : List ℕ) (n : ℕ) (o : Option ℕ) → train_named net name ≡ o
    → option_map (λ t. node_number (plan_layout net) (nodes.Train (record { 0 = t }))) o ≡ Some n → IsNode net (record { role = roles.Train; name = name }) n
by_train net name n None e is = absurd (cc)
by_train net name n (Some t) e is =
    let at = train_at net name t e in
    (nodes.Train (record { 0 = t }), (at.0, ap (λ m. record { role = roles.Train; name = m }) at.1), cc)

by_track : (net : NetworkPlan) (name : List ℕ) (n : ℕ) (o : Option ℕ) → train_named net name ≡ o
    → option_map (λ t. node_number (plan_layout net) (nodes.Track (record { 0 = t }))) o ≡ Some n → IsNode net (record { role = roles.Track; name = name }) n
by_track net name n None e is = absurd (cc)
by_track net name n (Some t) e is =
    let at = train_at net name t e in
    (nodes.Track (record { 0 = t }), (at.0, ap (λ m. record { role = roles.Track; name = m }) at.1), cc)

by_box : (net : NetworkPlan) (name : List ℕ) (n : ℕ) (o : Option ℕ) → box_named net name ≡ o
    → option_map (λ b. node_number (plan_layout net) (nodes.Box (record { 0 = b }))) o ≡ Some n → IsNode net (record { role = roles.SwitchBox; name = name }) n
by_box net name n None e is = absurd (cc)
by_box net name n (Some b) e is =
    let at = box_at net name b e in
    (nodes.Box (record { 0 = b }), (at.0, ap (λ m. record { role = roles.SwitchBox; name = m }) at.1), cc)

by_machine : (net : NetworkPlan) (name : List ℕ) (n : ℕ) (o : Option ℕ) → box_named net name ≡ o
    → option_map (λ b. node_number (plan_layout net) (nodes.Machine (record { 0 = b }))) o ≡ Some n
    → IsNode net (record { role = roles.Machine; name = name }) n
by_machine net name n None e is = absurd (cc)
by_machine net name n (Some b) e is =
    let at = box_at net name b e in
    (nodes.Machine (record { 0 = b }), (at.0, ap (λ m. record { role = roles.Machine; name = m }) at.1), cc)

node_at : (net : NetworkPlan) (role : Role) (name : List ℕ) (n : ℕ) → number_in net role name ≡ Some n → IsNode net (record { role = role; name = name }) n
node_at net roles.Train name n is = by_train net name n (train_named net name) refl is
node_at net roles.Track name n is = by_track net name n (train_named net name) refl is
node_at net roles.SwitchBox name n is = by_box net name n (box_named net name) refl is
node_at net roles.Machine name n is = by_machine net name n (box_named net name) refl is

pub item_said : (net : NetworkPlan) (order : Order) (item : Item) → item_of net order ≡ Some item → IsItemOf net order item
item_said net (Order.turns word count) item is = by (number_in net word.role word.name) refl is
  where
    by : (o : Option ℕ) → number_in net word.role word.name ≡ o → option_map (λ n. Turn (record { 0 = n }) count) o ≡ Some item
        → IsItemOf net (Order.turns word count) item
    by None e is = absurd (cc)
    by (Some n) e is =
        let same : Turn (record { 0 = n }) count ≡ item = cc in
        let node = node_at net word.role word.name n e in
        subst (IsItemOf net (Order.turns word count)) same (refl, node.0, node.1, node.2)
item_said net (Order.rounds count) item is = let same : Round count ≡ item = cc in subst (IsItemOf net (Order.rounds count)) same refl

-- the other way round
at_node : (net : NetworkPlan) → IsNetwork net → (word : NamedNode) (kind : NodeKind) → Names net word kind
    → number_in net word.role word.name ≡ Some (node_number (plan_layout net) kind)
at_node net network word (nodes.Train t) names =
    rw (names.1, named_place (λ (x : Train). x.name) net.trains t.0 network.train_names names.0) refl
at_node net network word (nodes.Track t) names =
    rw (names.1, named_place (λ (x : Train). x.name) net.trains t.0 network.train_names names.0) refl
at_node net network word (nodes.Box b) names =
    rw (names.1, named_place (λ (x : SwitchBox). x.name) net.boxes b.0 network.box_names names.0) refl
at_node net network word (nodes.Machine b) names =
    rw (names.1, named_place (λ (x : SwitchBox). x.name) net.boxes b.0 network.box_names names.0) refl

pub said_item : (net : NetworkPlan) → IsNetwork net → (order : Order) (item : Item) → IsItemOf net order item → item_of net order ≡ Some item
said_item net network (Order.turns word count) (Turn node times) is =
    ap (option_map (λ n. Turn (record { 0 = n }) count)) (at_node net network word is.1 is.2)
    ∙ ap (λ n. Some (Turn (record { 0 = n }) count)) (sym is.3) ∙ ap (λ c. Some (Turn node c)) (sym is.0)
said_item net network (Order.rounds count) (Round times) is = ap (λ c. Some (Round c)) (sym is)
said_item net network (Order.turns word count) (Round times) is = absurd is
said_item net network (Order.rounds count) (Turn node times) is = absurd is
