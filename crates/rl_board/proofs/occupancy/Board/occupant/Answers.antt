use Rattle.std.proofs.Common.{length}
use Rattle.rl_domain.specs.Rows.{occupies_of}
use Rattle.rl_board.specs.Boards.{world_on}
use Rattle.rl_board.proofs.Shown.{one_found}
use Rattle.rl_board.proofs.Standing.{one_occupant}
use Rattle.rl_board.proofs.occupancy.Board.occupant.Goals as goal

pub returns-clause-train : goal.returns-clause-train
returns-clause-train c =
    let by = c.occupied_by.ensures in
    one_found (λ t. occupies_of c.args.self.now.world t c.args.s.0) (length c.args.net.now.trains) c.occupied_by.result by.free by.occupied by.in_range
    (λ j k. one_occupant c.args.net.now (world_on c.args.net.now c.args.self.now) j k c.args.s.0 c.requires.board.kept)
