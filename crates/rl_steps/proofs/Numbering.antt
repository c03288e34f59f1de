-- The node and the word of a number, there and back.
use Rattle.std.proofs.Common.{◌≡◌, ℕ, Some, refl, arith}
use Rattle.std.proofs.lemmas.Bool.Decides.{nat_tests}
use Rattle.rl_base.specs.declared.layout.Layout.{Layout}
use Rattle.rl_base.specs.declared.layout.NodeKind.{NodeKind}
use Rattle.rl_base.specs.declared.layout.NodeKind.TheVariants as nodes
use Rattle.rl_base.specs.declared.layout.WordKind.{WordKind}
use Rattle.rl_base.specs.declared.layout.WordKind.TheVariants as words
use Rattle.rl_base.specs.Layout.{word_number, HasWord, node_number, HasNode}
use Rattle.rl_steps.specs.Numbers.{node_at, word_at}

pub word_at-number : (lay : Layout) (kind : WordKind) → HasWord lay kind → word_at lay (word_number lay kind) ≡ Some kind
word_at-number lay words.Still h = refl
word_at-number lay (words.Resv b) h = grind (arith, nat_tests)
word_at-number lay (words.Lock b) h = grind (arith, nat_tests)
word_at-number lay (words.Mail t) h = grind (arith, nat_tests)
word_at-number lay (words.Run t) h = grind (arith, nat_tests)
word_at-number lay (words.Sense t) h = grind (arith, nat_tests)

pub node_at-number : (lay : Layout) (kind : NodeKind) → HasNode lay kind → node_at lay (node_number lay kind) ≡ Some kind
node_at-number lay (nodes.Train t) h = grind (arith, nat_tests)
node_at-number lay (nodes.Track t) h = grind (arith, nat_tests)
node_at-number lay (nodes.Box b) h = grind (arith, nat_tests)
node_at-number lay (nodes.Machine b) h = grind (arith, nat_tests)

-- a number that a word has is the word's
pub word_at-some : (lay : Layout) (w : ℕ) (kind : WordKind) → word_at lay w ≡ Some kind → HasWord lay kind × (word_number lay kind ≡ w)
word_at-some lay w words.Still e = (tt, grind (arith, nat_tests))
word_at-some lay w (words.Resv b) e = (grind (arith, nat_tests), grind (arith, nat_tests))
word_at-some lay w (words.Lock b) e = (grind (arith, nat_tests), grind (arith, nat_tests))
word_at-some lay w (words.Mail t) e = (grind (arith, nat_tests), grind (arith, nat_tests))
word_at-some lay w (words.Run t) e = (grind (arith, nat_tests), grind (arith, nat_tests))
word_at-some lay w (words.Sense t) e = (grind (arith, nat_tests), grind (arith, nat_tests))

pub node_at-some : (lay : Layout) (n : ℕ) (kind : NodeKind) → node_at lay n ≡ Some kind → HasNode lay kind × (node_number lay kind ≡ n)
node_at-some lay n (nodes.Train t) e = (grind (arith, nat_tests), grind (arith, nat_tests))
node_at-some lay n (nodes.Track t) e = (grind (arith, nat_tests), grind (arith, nat_tests))
node_at-some lay n (nodes.Box b) e = (grind (arith, nat_tests), grind (arith, nat_tests))
node_at-some lay n (nodes.Machine b) e = (grind (arith, nat_tests), grind (arith, nat_tests))
