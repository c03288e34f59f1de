use Rattle.std.proofs.Common.{sym}
use Rattle.rl_domain.proofs.Holders.{locked_in_range, locked_for_path, unlocked_without}
use Rattle.rl_domain.proofs.world.World.locked_by.Goals as goal

pub returns-clause-in_range : goal.returns-clause-in_range
returns-clause-in_range c =
    rw c.train_of.ensures (locked_in_range c.args.net.now c.args.self.now c.args.b.0 c.lock.result c.requires.fits (sym c.lock.ensures))

pub returns-clause-locked : goal.returns-clause-locked
returns-clause-locked c =
    rw c.train_of.ensures (locked_for_path c.args.self.now c.args.b.0 c.lock.result (sym c.lock.ensures))

pub returns-clause-unlocked : goal.returns-clause-unlocked
returns-clause-unlocked c =
    rw c.train_of.ensures (unlocked_without c.args.self.now c.args.b.0 c.lock.result (sym c.lock.ensures))
