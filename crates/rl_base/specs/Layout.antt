-- The numbers of the shared words and of the nodes, from the numbers of boxes and trains.
use Rattle.std.specs.Prelude.{ℕ, ◌+◌, ◌*◌, ◌<◌}
use Rattle.rl_base.specs.declared.layout.Layout.{Layout}
use Rattle.rl_base.specs.declared.layout.NodeKind.{NodeKind}
use Rattle.rl_base.specs.declared.layout.NodeKind.TheVariants.{Train, Track, Box, Machine}
use Rattle.rl_base.specs.declared.layout.WordKind.{WordKind}
use Rattle.rl_base.specs.declared.layout.WordKind.TheVariants.{Still, Resv, Lock, Mail, Run, Sense}

-- how many words there are: the still word, two for each box and three for each train
abbrev pub word_count : Layout → ℕ
word_count lay = 1 + 2 * lay.boxes + 3 * lay.trains

-- the number of each word
abbrev pub word_number : Layout → WordKind → ℕ
word_number lay Still = 0
word_number lay (Resv b) = 1 + b.0
word_number lay (Lock b) = 1 + lay.boxes + b.0
word_number lay (Mail t) = 1 + 2 * lay.boxes + t.0
word_number lay (Run t) = 1 + 2 * lay.boxes + lay.trains + t.0
word_number lay (Sense t) = 1 + 2 * lay.boxes + 2 * lay.trains + t.0

-- the word's box or train is one of the layout's
abbrev pub HasWord : Layout → WordKind → Type 0
HasWord lay Still = Unit {0}
HasWord lay (Resv b) = b.0 < lay.boxes
HasWord lay (Lock b) = b.0 < lay.boxes
HasWord lay (Mail t) = t.0 < lay.trains
HasWord lay (Run t) = t.0 < lay.trains
HasWord lay (Sense t) = t.0 < lay.trains

-- how many nodes there are: two for each box and two for each train
abbrev pub node_count : Layout → ℕ
node_count lay = 2 * lay.boxes + 2 * lay.trains

-- the number of each node
abbrev pub node_number : Layout → NodeKind → ℕ
node_number lay (Train t) = t.0
node_number lay (Track t) = lay.trains + t.0
node_number lay (Box b) = 2 * lay.trains + b.0
node_number lay (Machine b) = 2 * lay.trains + lay.boxes + b.0

-- the node's box or train is one of the layout's
abbrev pub HasNode : Layout → NodeKind → Type 0
HasNode lay (Train t) = t.0 < lay.trains
HasNode lay (Track t) = t.0 < lay.trains
HasNode lay (Box b) = b.0 < lay.boxes
HasNode lay (Machine b) = b.0 < lay.boxes
