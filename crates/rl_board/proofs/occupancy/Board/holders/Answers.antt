use Rattle.std.proofs.Common.{length, ◌∙◌}
use Rattle.rl_board.specs.Boards.{world_on}
use Rattle.rl_board.proofs.Shown.{one_found, low_shown, high_shown, boxes_there}
use Rattle.rl_board.proofs.occupancy.Board.holders.Goals as goal

pub reserved_by-requires-clause-there : goal.reserved_by-requires-clause-there
reserved_by-requires-clause-there c = (c.requires.there, (boxes_there c.args.net.now c.args.s.0 c.ends.result c.accepted.ensures c.ends.ensures).0)

pub reserved_by-requires-2-clause-there : goal.reserved_by-requires-2-clause-there
reserved_by-requires-2-clause-there c = (c.requires.there, (boxes_there c.args.net.now c.args.s.0 c.ends.result c.accepted.ensures c.ends.ensures).1)

pub returns-clause-low : goal.returns-clause-low
returns-clause-low c =
    let net = c.args.net.now in
    let w = world_on net c.args.self.now in
    let s = c.args.s.0 in
    let b = c.ends.result.0.0.0 in
    let by = c.reserved_by.ensures in
    one_found (λ t. w.holds t s b) (length net.trains) c.reserved_by.result by.free by.held by.in_range (λ j k. c.requires.board.kept.one_holder j k s b)
    ∙ low_shown net w s c.ends.result c.ends.ensures

pub returns-clause-high : goal.returns-clause-high
returns-clause-high c =
    let net = c.args.net.now in
    let w = world_on net c.args.self.now in
    let s = c.args.s.0 in
    let b = c.ends.result.1.0.0 in
    let by = c.reserved_by-2.ensures in
    one_found (λ t. w.holds t s b) (length net.trains) c.reserved_by-2.result by.free by.held by.in_range (λ j k. c.requires.board.kept.one_holder j k s b)
    ∙ high_shown net w s c.ends.result c.ends.ensures
