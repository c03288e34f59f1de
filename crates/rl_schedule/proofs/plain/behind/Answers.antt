use Rattle.std.proofs.lemmas.Bool.Decides.{Decides-eqb}
use Rattle.std.proofs.lemmas.Slice.Eq.{strip_prefix_is}
use Rattle.rl_schedule.proofs.PlainTurns.{front_of}
use Rattle.rl_schedule.proofs.plain.behind.Goals as goal

pub returns : goal.returns
returns c =
    front_of c.args.text.now c.args.front.now c.strip_prefix.result
    (strip_prefix_is Decides-eqb c.args.text.now c.args.front.now c.strip_prefix.result c.strip_prefix.ensures.cases)
