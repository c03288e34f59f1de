use Rattle.std.proofs.Common.{Some, None}
use Rattle.std.proofs.lemmas.List.{get_or-set_same}
use Rattle.rl_plan.proofs.marking.mark.Goals as goal

pub returns-clause-marked : goal.returns-clause-marked
returns-clause-marked c = (c.args.level, get_or-set_same c.args.levels.now c.args.r.0 (Some c.args.level) None c.requires.there)
