use Rattle.rl_domain.specs.Rows.{world_of}
use Rattle.rl_board.proofs.Kept.{none_locked}
use Rattle.rl_board.proofs.occupancy.Board.start.Goals as goal

pub returns-clause-board : goal.returns-clause-board
returns-clause-board c =
    record {
      fits = c.in_ok-world.ensures.fits;
      kept = c.in_ok-world.ensures.kept;
      occupied = c.count_occupied-occupied.ensures;
      reserved = c.count_reserved-reserved.ensures;
      locked = none_locked c.args.net.now (world_of c.args.net.now c.in_ok-world.world) c.in_ok-world.ensures.start;
    }
