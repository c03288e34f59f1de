use Rattle.rl_board.specs.Boards.{world_on}
use Rattle.rl_board.proofs.Lines.{board_of}
use Rattle.rl_board.proofs.text.board_text.Goals as goal

pub returns : goal.returns
returns c =
    let net = c.args.net.now in
    let moves = c.in_ok-peak.ensures in
    board_of net c.args.report.now c.as_slice.result.now (world_on net c.in_ok-board.board) (world_on net c.put_moves.new.board) c.in_ok-peak.peak.occupied
    c.in_ok-peak.peak.place c.new-out.result c.text.new.self c.put_counts.new.out c.put_moves.new.out c.put_segments.new.out c.put_peak.new.out c.text-2.new.self
    c.as_slice.ensures c.in_ok-board.ensures.world moves.world c.new-out.ensures c.in_ok-text.ensures.appended c.in_ok-put_counts.ensures moves.text
    c.in_ok-put_segments.ensures c.in_ok-put_peak.ensures c.in_ok-text-2.ensures.appended moves.peak
