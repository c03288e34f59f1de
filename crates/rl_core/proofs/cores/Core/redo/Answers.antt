use Rattle.rl_core.proofs.Replaying.{makes_leads}
use Rattle.rl_core.proofs.cores.Core.redo.Goals as goal

pub returns-clause-made : goal.returns-clause-made
returns-clause-made c = λ true d leads.
    rw c.step-event.ensures.core
    (makes_leads c.args.self.now d c.args.e c.in-Some.payload c.in-Some.mind c.sound.ensures.sizes c.in-Some.ensures.fits leads)
