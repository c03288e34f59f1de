-- The node and the word of a number, where the layout has one.
use Rattle.std.specs.Prelude.{ℕ, ◌+◌, ◌-◌, ◌*◌, nat_lt, Option, Some, None, if◌then◌else◌}
use Rattle.rl_base.specs.declared.ids.BoxId.{BoxId}
use Rattle.rl_base.specs.declared.ids.TrainId.{TrainId}
use Rattle.rl_base.specs.declared.layout.Layout.{Layout}
use Rattle.rl_base.specs.declared.layout.NodeKind.{NodeKind}
use Rattle.rl_base.specs.declared.layout.NodeKind.TheVariants as nodes
use Rattle.rl_base.specs.declared.layout.WordKind.{WordKind}
use Rattle.rl_base.specs.declared.layout.WordKind.TheVariants as words
use Rattle.rl_base.specs.Layout.{node_count}

abbrev pub train : ℕ → TrainId
train n = record { 0 = n }

abbrev pub box : ℕ → BoxId
box n = record { 0 = n }

-- trains, tracks, boxes, machines
abbrev pub node_at : Layout → ℕ → Option NodeKind
node_at lay n =
    if nat_lt n lay.trains then Some (nodes.Train (train n))
    else (if nat_lt n (2 * lay.trains) then Some (nodes.Track (train (n - lay.trains)))
    else (if nat_lt n (2 * lay.trains + lay.boxes) then Some (nodes.Box (box (n - 2 * lay.trains)))
    else (if nat_lt n (node_count lay) then Some (nodes.Machine (box (n - (2 * lay.trains + lay.boxes)))) else None)))

-- the still word, reservations, locks, mail, run, sense
abbrev pub word_at : Layout → ℕ → Option WordKind
word_at lay w =
    if nat_lt w 1 then Some words.Still
    else (if nat_lt w (1 + lay.boxes) then Some (words.Resv (box (w - 1)))
    else (if nat_lt w (1 + 2 * lay.boxes) then Some (words.Lock (box (w - (1 + lay.boxes))))
    else (if nat_lt w (1 + 2 * lay.boxes + lay.trains) then Some (words.Mail (train (w - (1 + 2 * lay.boxes))))
    else (if nat_lt w (1 + 2 * lay.boxes + 2 * lay.trains) then Some
    (words.Run (train (w - (1 + 2 * lay.boxes + lay.trains))))
    else (if nat_lt w (1 + 2 * lay.boxes + 3 * lay.trains) then Some
    (words.Sense (train (w - (1 + 2 * lay.boxes + 2 * lay.trains))))
    else None)))))
