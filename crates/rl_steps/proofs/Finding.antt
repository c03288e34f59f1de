-- Who a node is: its mind says of which kind it is, and the layout at which number.
use Rattle.std.proofs.Common.{◌≡◌, ℕ, ◌+◌, ◌-◌, ◌*◌, ◌≤◌, ◌<◌, length, Option, Some, None, refl, ap, ◌∙◌, subst, arith}
use Rattle.std.proofs.lemmas.Bool.Decides.{nat_tests}
use Rattle.rl_base.specs.declared.layout.Layout.{Layout}
use Rattle.rl_base.specs.declared.layout.NodeKind.{NodeKind}
use Rattle.rl_base.specs.declared.layout.NodeKind.TheVariants as nodes
use Rattle.rl_base.specs.Layout.{node_count, node_number, HasNode}
use Rattle.rl_tables.specs.declared.table.Tables.{Tables}
use Rattle.rl_tables.specs.Starts.{layout_of}
use Rattle.rl_train.specs.declared.mind.TrainMind.{TrainMind}
use Rattle.rl_box.specs.declared.mind.BoxMind.{BoxMind}
use Rattle.rl_track.specs.declared.track.TrackMind.{TrackMind}
use Rattle.rl_track.specs.declared.machine.MachineMind.{MachineMind}
use Rattle.rl_steps.specs.declared.mind.Mind.{Mind}
use Rattle.rl_steps.specs.declared.mind.Mind.TheVariants.{Train, Track, Box, Machine}
use Rattle.rl_steps.specs.Numbers.{node_at, train, box}
use Rattle.rl_steps.specs.Sound.{IsMindOf}
use Rattle.rl_steps.specs.Held.{HasMind}
use Rattle.rl_steps.specs.Whos.{IsNode}
use Rattle.rl_steps.proofs.Numbering.{node_at-some}

-- the node of a number, with what is so of its mind
record IsAt (tables : Tables) (n : ℕ) (mind : Mind) (kind : NodeKind) : Type 0 where
  at : node_at (layout_of tables) n ≡ Some kind
  number : node_number (layout_of tables) kind ≡ n
  there : HasNode (layout_of tables) kind
  formed : IsMindOf tables kind mind

node_there : (lay : Layout) (n : ℕ) → n < node_count lay → (kind : NodeKind) × (node_at lay n ≡ Some kind)
node_there lay n within = by (node_at lay n) refl
  where
    nowhere : node_at lay n ≡ None → ⊥
    nowhere is = grind (arith, nat_tests)

    by : (o : Option NodeKind) → node_at lay n ≡ o → (kind : NodeKind) × (node_at lay n ≡ Some kind)
    by None is = absurd (nowhere is)
    by (Some kind) is = (kind, is)

kind_there : (tables : Tables) (n : ℕ) (mind own : Mind) → n < node_count (layout_of tables) → HasMind tables n mind
    → mind ≡ own
    → (kind : NodeKind) × IsAt tables n own kind
kind_there tables n mind own within has is =
    let node = node_there (layout_of tables) n within in
    let found = node_at-some (layout_of tables) n node.0 node.1 in (
      node.0,
      record { at = node.1; number = found.1; there = found.0; formed = subst (λ (m : Mind). IsMindOf tables node.0 m) is (has node.0 node.1) },
    )

is_node : (tables : Tables) (n : ℕ) (mind own : Mind) (found node : NodeKind) → IsAt tables n own found → mind ≡ own → found ≡ node
    → IsNode tables n mind node own
is_node tables n mind own found node is mind_is same = record {
  at = is.at ∙ ap Some same;
  mind_is = mind_is;
  formed = subst (λ (k : NodeKind). IsMindOf tables k own) same is.formed;
}

pub train_here : (tables : Tables) (n : ℕ) (mind : Mind) (m : TrainMind) → n < node_count (layout_of tables) → HasMind tables n mind
    → mind ≡ Train m
    → IsNode tables n mind (nodes.Train (train n)) (Train m)
train_here tables n mind m within has is = let found = kind_there tables n mind (Train m) within has is in by found.0 found.1
  where
    by : (kind : NodeKind) → IsAt tables n (Train m) kind → IsNode tables n mind (nodes.Train (train n)) (Train m)
    by (nodes.Train x) at =
        let number : node_number (layout_of tables) (nodes.Train x) ≡ n = at.number in
        let same : x.0 ≡ n = omega arith in
        is_node tables n mind (Train m) (nodes.Train x) (nodes.Train (train (n))) at is (ap (λ (k : ℕ). nodes.Train (train k)) same)
    by (nodes.Track x) at = absurd at.formed
    by (nodes.Box x) at = absurd at.formed
    by (nodes.Machine x) at = absurd at.formed

pub track_here : (tables : Tables) (n : ℕ) (mind : Mind) (m : TrackMind) → n < node_count (layout_of tables) → HasMind tables n mind
    → mind ≡ Track m
    → (length tables.trains ≤ n) × IsNode tables n mind (nodes.Track (train (n - length tables.trains))) (Track m)
track_here tables n mind m within has is = let found = kind_there tables n mind (Track m) within has is in by found.0 found.1
  where
    by : (kind : NodeKind) → IsAt tables n (Track m) kind → (length tables.trains ≤ n)
        × IsNode tables n mind (nodes.Track (train (n - length tables.trains))) (Track m)
    by (nodes.Train x) at = absurd at.formed
    by (nodes.Track x) at =
        let number : node_number (layout_of tables) (nodes.Track x) ≡ n = at.number in
        let same : x.0 ≡ n - length tables.trains = omega arith in
        let is_here = is_node tables n mind (Track m) (nodes.Track x) (nodes.Track (train (n - length tables.trains))) at is
        (ap (λ (k : ℕ). nodes.Track (train k)) same) in
        (omega arith, is_here)
    by (nodes.Box x) at = absurd at.formed
    by (nodes.Machine x) at = absurd at.formed

pub box_here : (tables : Tables) (n : ℕ) (mind : Mind) (m : BoxMind) → n < node_count (layout_of tables) → HasMind tables n mind
    → mind ≡ Box m
    → (2 * length tables.trains ≤ n) × IsNode tables n mind (nodes.Box (box (n - 2 * length tables.trains))) (Box m)
box_here tables n mind m within has is = let found = kind_there tables n mind (Box m) within has is in by found.0 found.1
  where
    by : (kind : NodeKind) → IsAt tables n (Box m) kind → (2 * length tables.trains ≤ n)
        × IsNode tables n mind (nodes.Box (box (n - 2 * length tables.trains))) (Box m)
    by (nodes.Train x) at = absurd at.formed
    by (nodes.Track x) at = absurd at.formed
    by (nodes.Box x) at =
        let number : node_number (layout_of tables) (nodes.Box x) ≡ n = at.number in
        let same : x.0 ≡ n - 2 * length tables.trains = omega arith in
        let is_here = is_node tables n mind (Box m) (nodes.Box x) (nodes.Box (box (n - 2 * length tables.trains))) at is
        (ap (λ (k : ℕ). nodes.Box (box k)) same) in
        (omega arith, is_here)
    by (nodes.Machine x) at = absurd at.formed

pub machine_here : (tables : Tables) (n : ℕ) (mind : Mind) (m : MachineMind) → n < node_count (layout_of tables) → HasMind tables n mind
    → mind ≡ Machine m
    → (2 * length tables.trains + length tables.boxes ≤ n)
    × IsNode tables n mind (nodes.Machine (box (n - 2 * length tables.trains - length tables.boxes))) (Machine m)
machine_here tables n mind m within has is = let found = kind_there tables n mind (Machine m) within has is in by found.0 found.1
  where
    by : (kind : NodeKind) → IsAt tables n (Machine m) kind → (2 * length tables.trains + length tables.boxes ≤ n)
        × IsNode tables n mind (nodes.Machine (box (n - 2 * length tables.trains - length tables.boxes))) (Machine m)
    by (nodes.Train x) at = absurd at.formed
    by (nodes.Track x) at = absurd at.formed
    by (nodes.Box x) at = absurd at.formed
    by (nodes.Machine x) at =
        let number : node_number (layout_of tables) (nodes.Machine x) ≡ n = at.number in
        let same : x.0 ≡ n - 2 * length tables.trains - length tables.boxes = omega arith in
        let is_here = is_node tables n mind (Machine m) (nodes.Machine x) (nodes.Machine (box (n - 2 * length tables.trains - length tables.boxes))) at is
        (ap (λ (k : ℕ). nodes.Machine (box k)) same) in
        (omega arith, is_here)
