-- The numbering of words and nodes, read backwards.
use Rattle.std.proofs.Common.{◌≡◌, ℕ, ◌+◌, ◌-◌, ◌*◌, ◌<◌, nat_lt, ◌==◌, if◌then◌else◌, refl, sym, ap, ◌∙◌, arith}
use Rattle.std.proofs.lemmas.Bool.Decides.{nat_tests}
use Rattle.rl_base.specs.declared.layout.Layout.{Layout}
use Rattle.rl_base.specs.declared.layout.NodeKind.{NodeKind}
use Rattle.rl_base.specs.declared.layout.NodeKind.TheVariants.{Train, Track, Box, Machine}
use Rattle.rl_base.specs.declared.layout.WordKind.{WordKind}
use Rattle.rl_base.specs.declared.layout.WordKind.TheVariants.{Still, Resv, Lock, Mail, Run, Sense}
use Rattle.rl_base.specs.Layout.{word_count, word_number, HasWord, node_count, node_number, HasNode}

-- the word of a number
abbrev word_of : Layout → ℕ → WordKind
word_of lay n =
    if n == 0 then Still
    else (if nat_lt n (1 + lay.boxes) then Resv (record { 0 = n - 1 })
    else (if nat_lt n (1 + 2 * lay.boxes) then Lock (record { 0 = n - (1 + lay.boxes) })
    else (if nat_lt n (1 + 2 * lay.boxes + lay.trains) then Mail (record { 0 = n - (1 + 2 * lay.boxes) })
    else (if nat_lt n (1 + 2 * lay.boxes + 2 * lay.trains) then Run (record { 0 = n - (1 + 2 * lay.boxes + lay.trains) })
    else Sense (record { 0 = n - (1 + 2 * lay.boxes + 2 * lay.trains) })))))

word_of-number : (lay : Layout) (kind : WordKind) → HasWord lay kind → word_of lay (word_number lay kind) ≡ kind
word_of-number lay Still h = refl
word_of-number lay (Resv b) h = grind (arith, nat_tests)
word_of-number lay (Lock b) h = grind (arith, nat_tests)
word_of-number lay (Mail t) h = grind (arith, nat_tests)
word_of-number lay (Run t) h = grind (arith, nat_tests)
word_of-number lay (Sense t) h = grind (arith, nat_tests)

-- no two words have one number
pub same_word : (lay : Layout) (j k : WordKind) → HasWord lay j → HasWord lay k → word_number lay j ≡ word_number lay k → j ≡ k
same_word lay j k hj hk e = sym (word_of-number lay j hj) ∙ ap (word_of lay) e ∙ word_of-number lay k hk

-- the node of a number
abbrev node_of : Layout → ℕ → NodeKind
node_of lay n =
    if nat_lt n lay.trains then Train (record { 0 = n })
    else (if nat_lt n (2 * lay.trains) then Track (record { 0 = n - lay.trains })
    else (if nat_lt n (2 * lay.trains + lay.boxes) then Box (record { 0 = n - 2 * lay.trains })
    else Machine (record { 0 = n - (2 * lay.trains + lay.boxes) })))

node_of-number : (lay : Layout) (kind : NodeKind) → HasNode lay kind → node_of lay (node_number lay kind) ≡ kind
node_of-number lay (Train t) h = grind (arith, nat_tests)
node_of-number lay (Track t) h = grind (arith, nat_tests)
node_of-number lay (Box b) h = grind (arith, nat_tests)
node_of-number lay (Machine b) h = grind (arith, nat_tests)

-- no two nodes have one number
pub same_node : (lay : Layout) (j k : NodeKind) → HasNode lay j → HasNode lay k → node_number lay j ≡ node_number lay k → j ≡ k
same_node lay j k hj hk e = sym (node_of-number lay j hj) ∙ ap (node_of lay) e ∙ node_of-number lay k hk

-- each number is among them
pub word_number-within : (lay : Layout) (kind : WordKind) → HasWord lay kind → word_number lay kind < word_count lay
word_number-within lay Still h = omega arith
word_number-within lay (Resv b) h = omega arith
word_number-within lay (Lock b) h = omega arith
word_number-within lay (Mail t) h = omega arith
word_number-within lay (Run t) h = omega arith
word_number-within lay (Sense t) h = omega arith

pub node_number-within : (lay : Layout) (kind : NodeKind) → HasNode lay kind → node_number lay kind < node_count lay
node_number-within lay (Train t) h = omega arith
node_number-within lay (Track t) h = omega arith
node_number-within lay (Box b) h = omega arith
node_number-within lay (Machine b) h = omega arith
