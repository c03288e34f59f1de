use Rattle.rl_base.proofs.LayoutLemmas.{same_word, same_node, word_number-within, node_number-within}
use Rattle.rl_base.proofs.layout.numberings.Goals as goal

pub returns : goal.returns
returns c = record {
  words = same_word;
  words_within = word_number-within;
  nodes = same_node;
  nodes_within = node_number-within;
}
