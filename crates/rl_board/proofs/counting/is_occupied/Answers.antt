use Rattle.std.proofs.Common.{length, ◌∙◌}
use Rattle.rl_domain.specs.Rows.{occupies_of}
use Rattle.rl_board.proofs.Shown.{some_found}
use Rattle.rl_board.proofs.counting.is_occupied.Goals as goal

pub returns : goal.returns
returns c =
    let by = c.occupied_by.ensures in
    c.is_some.ensures
    ∙ some_found (λ t. occupies_of c.args.world.now t c.args.s.0) (length c.args.net.now.trains) c.occupied_by.result by.free by.occupied by.in_range
