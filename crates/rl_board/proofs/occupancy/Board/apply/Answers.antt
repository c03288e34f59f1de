use Rattle.rl_board.proofs.Counted.{move_counted}
use Rattle.rl_board.proofs.Kept.{has_room, still_board}
use Rattle.rl_board.proofs.occupancy.Board.apply.Goals as goal

pub count-requires : goal.count-requires
count-requires c =
    let net = c.args.net.now in
    let board = c.args.self.now in
    let made = c.in_ok-apply.ensures in
    has_room net c.args.m.now board c.apply.new.self c.accepted.ensures c.requires.board
    (move_counted net board.world c.apply.new.self c.args.m.now c.requires.board.fits made.fits c.requires.board.kept c.requires.of made.all_hold made.changed)

pub returns-clause-board : goal.returns-clause-board
returns-clause-board c =
    let net = c.args.net.now in
    let board = c.args.self.now in
    let made = c.in_ok-apply.ensures in
    still_board net c.args.m.now board c.count.new.self c.apply.new.self c.requires.board made.fits (made.kept c.requires.board.kept) made.changed
    (move_counted net board.world c.apply.new.self c.args.m.now c.requires.board.fits made.fits c.requires.board.kept c.requires.of made.all_hold made.changed)
    c.count.ensures.world c.count.ensures.counted
