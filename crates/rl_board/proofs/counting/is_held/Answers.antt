use Rattle.std.proofs.Common.{length, ◌∙◌}
use Rattle.rl_domain.specs.Rows.{world_of}
use Rattle.rl_board.proofs.Shown.{some_found}
use Rattle.rl_board.proofs.counting.is_held.Goals as goal

pub returns : goal.returns
returns c =
    let by = c.reserved_by.ensures in
    c.is_some.ensures
    ∙ some_found (λ t. (world_of c.args.net.now c.args.world.now).holds t c.args.s.0 c.args.b.0) (length c.args.net.now.trains) c.reserved_by.result by.free
    by.held by.in_range
