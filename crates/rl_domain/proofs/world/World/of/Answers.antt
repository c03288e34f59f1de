use Rattle.std.proofs.Common.{sym, subst}
use Rattle.rl_model.specs.Safety.{IsKept}
use Rattle.rl_domain.proofs.PartWorlds.{parts_world, parts_fit}
use Rattle.rl_domain.proofs.world.World.of.Goals as goal

pub returns-clause-world : goal.returns-clause-world
returns-clause-world c = parts_world _ _ _ _ c.in_ok-trains.ensures c.in_ok-boxes.ensures

pub returns-clause-fits : goal.returns-clause-fits
returns-clause-fits c = parts_fit _ _ _ _ c.requires c.in_ok-trains.ensures c.in_ok-boxes.ensures

pub returns-clause-kept : goal.returns-clause-kept
returns-clause-kept c =
    subst (IsKept c.args.net.now) (sym (parts_world _ _ _ _ c.in_ok-trains.ensures c.in_ok-boxes.ensures)) c.requires.kept
