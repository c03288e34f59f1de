use Rattle.rl_text.proofs.LinesLemmas.{flat_map-lines_of}
use Rattle.rl_text.proofs.tokens.Tokens.new.Goals as goal

pub returns-clause-joined : goal.returns-clause-joined
returns-clause-joined c = flat_map-lines_of c.args.text.now
