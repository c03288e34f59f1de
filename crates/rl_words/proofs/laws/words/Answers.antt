use Rattle.rl_words.proofs.WordLemmas.{read_word-packed, read_word_only, packed_word-lt, word_owned}
use Rattle.rl_words.proofs.laws.words.Goals as goal

pub returns : goal.returns
returns c = record { reads = read_word-packed; only = read_word_only; small = packed_word-lt; owned = word_owned }
