use Rattle.rl_ends.proofs.JoinedNames as lemma
use Rattle.rl_ends.proofs.laws.joined_names.Goals as goal

pub returns : goal.returns
returns c = record { names = lemma.joined_names }
