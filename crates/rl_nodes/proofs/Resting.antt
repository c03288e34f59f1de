-- A node looks at no word exactly where it is a train at rest.
use Rattle.std.proofs.Common.{◌≡◌, ℕ, zero, suc, ◌<◌, List, [], ◌∷◌, Bool, true, false, cond}
use Rattle.std.proofs.Common.{length, slice_get, Option, Some, None, is_none, option_map, refl, sym, ap, ◌∙◌, subst, arith}
use Rattle.std.proofs.lemmas.Bool.Decides.{nat_tests}
use Rattle.std.specs.Option.{option_map_or}
use Rattle.rl_base.specs.declared.layout.Layout.{Layout}
use Rattle.rl_base.specs.declared.layout.NodeKind.{NodeKind}
use Rattle.rl_base.specs.declared.layout.NodeKind.TheVariants as nodes
use Rattle.rl_base.specs.Layout.{node_count, node_number, word_number, HasNode}
use Rattle.rl_tables.specs.declared.table.Tables.{Tables}
use Rattle.rl_tables.specs.declared.table.TrainTable.{TrainTable}
use Rattle.rl_tables.specs.Starts.{layout_of}
use Rattle.rl_train.specs.declared.mind.TrainMind.{TrainMind}
use Rattle.rl_train.specs.Mind.{at_rest}
use Rattle.rl_train.specs.Jobs.{is_pass}
use Rattle.rl_train.specs.Steps.{train_target}
use Rattle.rl_steps.specs.declared.mind.Mind.{Mind}
use Rattle.rl_steps.specs.declared.mind.Mind.TheVariants.{Train, Track, Box, Machine}
use Rattle.rl_steps.specs.Numbers.{node_at}
use Rattle.rl_steps.specs.Sound.{IsMindOf}
use Rattle.rl_steps.specs.Step.{target_of}
use Rattle.rl_steps.proofs.Numbering.{node_at-some}
use Rattle.rl_steps.proofs.ByKind.{train_target_at, track_target_at, box_target_at, machine_target_at}
use Rattle.rl_steps.specs.Held.{HasMind}
use Rattle.rl_nodes.specs.Nodes.{is_train_at_rest}

some_unless : {A : Type 0} (o : Option A) → (o ≡ None → ⊥) → (a : A) × (o ≡ Some a)
some_unless None h = absurd (h refl)
some_unless (Some a) h = (a, refl)

-- every number below the count is a node's
node_there : (lay : Layout) (n : ℕ) → n < node_count lay → (node : NodeKind) × (node_at lay n ≡ Some node)
node_there lay n below = some_unless (node_at lay n) (λ none. grind (arith, nat_tests))

-- the item at a place of the list
pub item_there : {A : Type 0} (xs : List A) (i : ℕ) → i < length xs → (a : A) × (slice_get xs i ≡ Some a)
item_there [] i below = absurd (omega arith)
item_there (x ∷ xs) zero below = (x, refl)
item_there (x ∷ xs) (suc i) below = item_there xs i (omega arith)

none_of_map : {A B : Type 0} (f : A → B) (o : Option A) → is_none (option_map f o) ≡ is_none o
none_of_map f None = refl
none_of_map f (Some a) = refl

none_if : {A : Type 0} (b c : Bool) (x y : A) → is_none (cond b None (cond c (Some x) (Some y))) ≡ b
none_if true c x y = refl
none_if false true x y = refl
none_if false false x y = refl

train_rests : (x : TrainTable) (m : TrainMind) → is_none (train_target x m) ≡ at_rest x m
train_rests x m = none_if (at_rest x m) (is_pass m.job) _ _

rests_as : (line : Tables) (n scan : ℕ) (m : Mind) (node : NodeKind) → node_at (layout_of line) n ≡ Some node → HasNode (layout_of line) node
    → node_number (layout_of line) node ≡ n → IsMindOf line node m
    → is_none (target_of line n m scan) ≡ is_train_at_rest line n m
rests_as line n scan (Train m) (nodes.Train t) at there number is =
    let x = item_there line.trains t.0 there in
    let here : slice_get line.trains n ≡ Some x.0 = subst (λ (k : ℕ). slice_get line.trains k ≡ Some x.0) number x.1 in
    ap is_none (train_target_at line n scan t x.0 m at x.1)
    ∙ none_of_map (word_number (layout_of line)) (train_target x.0 m)
    ∙ train_rests x.0 m
    ∙ sym (ap (λ (o : Option TrainTable). option_map_or (λ (y : TrainTable). at_rest y m) o false) here)
rests_as line n scan (Track m) (nodes.Track t) at there number is = ap is_none (track_target_at line n scan t m at)
rests_as line n scan (Box m) (nodes.Box b) at there number is =
    let x = item_there line.boxes b.0 there in
    ap is_none (box_target_at line n scan b x.0 m at x.1)
rests_as line n scan (Machine m) (nodes.Machine b) at there number is = ap is_none (machine_target_at line n scan b m at)
rests_as line n scan (Train m) (nodes.Track t) at there number is = absurd is
rests_as line n scan (Train m) (nodes.Box b) at there number is = absurd is
rests_as line n scan (Train m) (nodes.Machine b) at there number is = absurd is
rests_as line n scan (Track m) (nodes.Train t) at there number is = absurd is
rests_as line n scan (Track m) (nodes.Box b) at there number is = absurd is
rests_as line n scan (Track m) (nodes.Machine b) at there number is = absurd is
rests_as line n scan (Box m) (nodes.Train t) at there number is = absurd is
rests_as line n scan (Box m) (nodes.Track t) at there number is = absurd is
rests_as line n scan (Box m) (nodes.Machine b) at there number is = absurd is
rests_as line n scan (Machine m) (nodes.Train t) at there number is = absurd is
rests_as line n scan (Machine m) (nodes.Track t) at there number is = absurd is
rests_as line n scan (Machine m) (nodes.Box b) at there number is = absurd is

rests_by_target : (line : Tables) (n scan : ℕ) (m : Mind) → n < node_count (layout_of line) → HasMind line n m
    → is_none (target_of line n m scan) ≡ is_train_at_rest line n m
rests_by_target line n scan m there formed =
    let node = node_there (layout_of line) n there in
    let has = node_at-some (layout_of line) n node.0 node.1 in
    rests_as line n scan m node.0 node.1 has.0 has.1 (formed node.0 node.1)

pub no_target_rests : (line : Tables) (n scan : ℕ) (m : Mind) → n < node_count (layout_of line) → HasMind line n m → target_of line n m scan ≡ None
    → is_train_at_rest line n m ≡ true
no_target_rests line n scan m there formed none = sym (rests_by_target line n scan m there formed) ∙ ap is_none none

pub awake : (line : Tables) (n scan w : ℕ) (m : Mind) → n < node_count (layout_of line) → HasMind line n m → target_of line n m scan ≡ Some w
    → is_train_at_rest line n m ≡ false
awake line n scan w m there formed some = sym (rests_by_target line n scan m there formed) ∙ ap is_none some
