use Rattle.std.proofs.Common.{subst}
use Rattle.std.proofs.lemmas.Option.{get_or_from_slice_get}
use Rattle.rl_steps.specs.declared.mind.Mind.{Mind}
use Rattle.rl_steps.specs.declared.mind.Mind.TheVariants.{Machine}
use Rattle.rl_steps.specs.Held.{HasMind}
use Rattle.rl_core.proofs.cores.Core.mind.Goals as goal

pub returns-clause-mind : goal.returns-clause-mind
returns-clause-mind c = get_or_from_slice_get c.args.self.now.minds c.args.n.0 c.mind_at.result.now (Machine record {}) c.mind_at.ensures

pub returns-clause-formed : goal.returns-clause-formed
returns-clause-formed c =
    subst (λ (m : Mind). HasMind c.args.self.now.line c.args.n.0 m)
    (get_or_from_slice_get c.args.self.now.minds c.args.n.0 c.mind_at.result.now (Machine record {}) c.mind_at.ensures) (c.sound.ensures.sound.minds c.args.n.0)
