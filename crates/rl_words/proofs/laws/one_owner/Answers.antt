use Rattle.rl_words.proofs.OwnerLemmas.{same_owner}
use Rattle.rl_words.proofs.laws.one_owner.Goals as goal

pub returns : goal.returns
returns c lay w payload m n a b = same_owner lay w payload m n (c.numberings.ensures.words lay) a b
