use Rattle.rl_core.proofs.Replaying.{fits_makes}
use Rattle.rl_core.proofs.cores.Core.fitting.Goals as goal

pub returns-then-not-finds-clause-misfits : goal.returns-then-not-finds-clause-misfits
returns-then-not-finds-clause-misfits c = λ none fits.
    let makes = fits_makes c.args.self.now c.args.e c.sound.ensures.sizes fits in
    let found = c.finds.ensures.1 makes.1.found in
    cc
